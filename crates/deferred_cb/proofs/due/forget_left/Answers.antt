use Rattle.std.proofs.Common.{not, rules}
use Rattle.std.specs.Prelude.{nat_eq}
use Rattle.std.proofs.lemmas.Fn.{filter_same}
use Rattle.deferred_cb.specs.DueCalls.{Entry}
use Rattle.deferred_cb.proofs.due.forget_left.Goals as goal

pub returns-clause-others : goal.returns-clause-others
returns-clause-others c = filter_same _ (λ (e : Entry). not (nat_eq c.args.owner e.0)) _
    (λ x b g k. search rules) _ _ c.retain.ensures.filtered
