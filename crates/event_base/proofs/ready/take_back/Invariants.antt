-- What is left are the first of the events that were appended.
use Rattle.std.proofs.Common.{◌≡◌, ◌≤◌, ℕ, List, length, take}
use Rattle.event_base.specs.Ready.{CanAppend, appended_all}
use Rattle.event_base.proofs.ready.take_back.Given as goal

abbrev pub invariant-loop-left : goal.invariant-loop-left
invariant-loop-left l =
    (l.left ≤ length l.waking)
    × ((queues : List (List ℕ)) → CanAppend queues l.waking → l.initial.active ≡ appended_all queues l.waking → l.active ≡
    appended_all queues (take l.left l.waking))

abbrev pub decreases-loop-left : goal.decreases-loop-left
decreases-loop-left l = l.left
