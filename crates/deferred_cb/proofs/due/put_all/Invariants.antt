use Rattle.std.proofs.Common.{◌≡◌, ◌≤◌, take}
use Rattle.std.specs.VecDeque.{deque_capacity}
use Rattle.deferred_cb.proofs.due.put_all.Given as goal

abbrev pub invariant-loop-at : goal.invariant-loop-at
invariant-loop-at l = record {
  items : l.list.items ≡ take l.at l.entries.entries;
  capacity : deque_capacity l.initial.list ≤ deque_capacity l.list;
}
