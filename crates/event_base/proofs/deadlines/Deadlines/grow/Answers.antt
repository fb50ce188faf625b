-- More room changes no moment.
use Rattle.std.proofs.Common.{◌≡◌, ◌∙◌, ap}
use Rattle.event_base.specs.Rising.{at}
use Rattle.event_base.proofs.DeadlineLemmas.{IsTimed-same, moments-same}
use Rattle.event_base.proofs.deadlines.Deadlines.grow.Goals as goal

pub invariant_of-self : goal.invariant_of-self
invariant_of-self c = rw c.loop-self.invariant.2 (IsTimed-same _ _ _ _ c.loop-self.invariant.0 c.self.invariant)

pub invariant_of-self-in_err-push : goal.invariant_of-self-in_err-push
invariant_of-self-in_err-push c =
    rw (c.loop-self.invariant.2, c.in_err-push.ensures.items) (IsTimed-same _ _ _ _ c.loop-self.invariant.0 c.self.invariant)

pub returns-in_err-push-clause-moments : goal.returns-in_err-push-clause-moments
returns-in_err-push-clause-moments c =
    rw (← c.self.view_is, c.in_err-push.ensures.items) (moments-same _ _ c.loop-self.invariant.0)

pub returns-clause-moments : goal.returns-clause-moments
returns-clause-moments c = rw (← c.self.view_is) (moments-same _ _ c.loop-self.invariant.0)
