-- A queue of the view has a key exactly where that of the fields has one.
use Rattle.std.proofs.Common.{ℕ, List, length, nat_lt}
use Rattle.prio_queue.proofs.QueueLemmas.{position_of_map}
use Rattle.prio_queue.proofs.active.Active.first_queue.Goals as goal

pub returns-in-Some : goal.returns-in-Some
returns-in-Some c = rw (← c.self.view_is, position_of_map (λ (q : List ℕ). nat_lt 0 (length q)), ← c.as_slice.ensures.value)
    c.in-Some.ensures

pub returns-in-None : goal.returns-in-None
returns-in-None c = rw (← c.self.view_is, position_of_map (λ (q : List ℕ). nat_lt 0 (length q)), ← c.as_slice.ensures.value)
    c.in-None.ensures
