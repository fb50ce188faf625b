-- The event leaves its queue and its place.
use Rattle.event_base.proofs.ReadyLemmas.{IsPlaced-rest}
use Rattle.event_base.proofs.ready.Ready.rest.Goals as goal

pub invariant_of-self-then-is_some : goal.invariant_of-self-then-is_some
invariant_of-self-then-is_some c = rw (c.remove.ensures.left, c.from.ensures) (IsPlaced-rest _ _ _ _ c.self.invariant)
