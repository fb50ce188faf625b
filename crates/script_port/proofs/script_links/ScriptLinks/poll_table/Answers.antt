use Rattle.std.proofs.Common.{◌∙◌, ap}
use Rattle.std.specs.Prelude.{filter}
use Rattle.ev_port.specs.Table.{is_marked, named}
use Rattle.script_port.proofs.LinkLemmas.{table-after, table-marks}
use Rattle.script_port.proofs.script_links.ScriptLinks.poll_table.Goals as goal

pub returns-clause-list : goal.returns-clause-list
returns-clause-list c =
    c.mark_each.ensures.list ∙ ap (filter is_marked) (table-marks (named c.args.wants.now) c.args.self.now)

pub returns-clause-after : goal.returns-clause-after
returns-clause-after c = c.mark_each.ensures.after ∙ table-after (named c.args.wants.now) c.args.self.now
