-- A key stands in a queue of the view exactly where it stands in a queue of the fields.
use Rattle.prio_queue.proofs.QueueLemmas.{list_any_of_map}
use Rattle.prio_queue.proofs.active.Active.holds.Goals as goal

pub returns : goal.returns
returns c = rw (← c.self.view_is, list_any_of_map, ← c.as_slice.ensures.value) c.stands_in.ensures
