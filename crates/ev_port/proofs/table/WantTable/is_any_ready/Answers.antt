use Rattle.std.proofs.Common.{◌∙◌}
use Rattle.ev_port.proofs.TableViewLemmas.{ready-shown}
use Rattle.ev_port.proofs.table.WantTable.is_any_ready.Goals as goal

pub returns : goal.returns
returns c =
    let told = ready-shown c.self.inside c.self.invariant c.args.self.now c.self.view_is c.args.readable.now c.args.writable.now
    c.next_in_either.result c.next_in_either.ensures.next in
    c.is_some.ensures ∙ told
