use Rattle.std.proofs.Common.{ap, ◌∙◌}
use Rattle.deferred_cb.specs.DueValue.{DueValue}
use Rattle.deferred_cb.proofs.CallLemmas.{no-calls}
use Rattle.deferred_cb.proofs.due.Due.begin.Goals as goal

pub put_all-requires-clause-empty : goal.put_all-requires-clause-empty
put_all-requires-clause-empty c =
    no-calls c.self.inside.batch.items c.self.invariant.left (ap (λ (z : DueValue). z.batch) c.self.view_is ∙ c.requires)
