-- The first timer has the least deadline.
use Rattle.event_base.proofs.DeadlineLemmas.{IsLeast-first_deadline}
use Rattle.event_base.proofs.deadlines.Deadlines.first.Goals as goal

pub returns : goal.returns
returns c = rw (c.next_deadline.ensures, ← c.self.view_is) (IsLeast-first_deadline _ _ _ c.self.invariant)
