-- How the code keeps the callbacks that are due.
use Rattle.std.specs.Prelude.{◌≡◌, ◌+◌, ◌≤◌, [], true, List, length}
use Rattle.std.specs.List.{AllByRecursion}
use Rattle.std.specs.VecDeque.{deque_capacity}
use Rattle.indexmap.specs.IndexMap.{spare}
use Rattle.deferred_cb.specs.DueCalls.{Entry, has_reason, all_calls}
use Rattle.deferred_cb.specs.DueValue.{DueValue}
use Rattle.deferred_cb.specs.declared.due.Due.TheInside as due

abbrev pub due_value : due.Inside → DueValue
due_value d = record { pending = d.pending.entries; batch = all_calls d.batch.items; spare = d.spare }

-- each entry has a reason
abbrev pub HaveReasons : List Entry → Type 0
HaveReasons es = AllByRecursion (λ (e : Entry). has_reason e.1 ≡ true) es

-- There is room for so many entries more. An empty list has room for all of them, so that they can be moved there while one is
-- taken out; and the batch has room for all of them. An entry goes with its last reason.
pub record HasRooms (d : due.Inside) : Type 0 where
  pub pending : d.spare ≤ spare d.pending
  pub moving : d.moving.items ≡ []
  pub moved : length d.pending.entries + d.spare ≤ deque_capacity d.moving
  pub batch : length d.pending.entries + d.spare ≤ deque_capacity d.batch
  pub due : HaveReasons d.pending.entries
  pub left : HaveReasons d.batch.items
