-- The front leaves its queue and its place.
use Rattle.event_base.proofs.ReadyLemmas.{IsPlaced-rest_front}
use Rattle.event_base.proofs.ready.Ready.rest_front.Goals as goal

pub invariant_of-self : goal.invariant_of-self
invariant_of-self c =
    rw c.pop.ensures.left (IsPlaced-rest_front _ _ _ _ _ c.self.invariant (rw (← c.self.view_is) at c.requires))
