use Rattle.std.proofs.Common.{◌∙◌, ap, rules}
use Rattle.std.specs.Prelude.{filter}
use Rattle.std.proofs.lemmas.Fn.{filter_same}
use Rattle.ev_port.specs.Table.{WantsValue, is_marked}
use Rattle.ev_port.proofs.table.WantTable.keep_marked.Goals as goal

pub returns-clause-list : goal.returns-clause-list
returns-clause-list c =
    filter_same _ is_marked _ (λ x b f' k. search rules) _ _ c.retain.ensures.filtered
    ∙ ap (λ (t : WantsValue). filter is_marked t.list) c.self.view_is
