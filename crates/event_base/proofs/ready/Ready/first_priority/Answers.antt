-- The first queue with an event is that of the most urgent one.
use Rattle.event_base.proofs.ReadyLemmas.{IsLeast-first_filled}
use Rattle.event_base.proofs.ready.Ready.first_priority.Goals as goal

pub returns : goal.returns
returns c = rw (c.first_queue.ensures, ← c.self.view_is) (IsLeast-first_filled _ _ c.self.invariant.rises)
