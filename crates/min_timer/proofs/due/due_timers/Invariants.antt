-- The walk has come to the next entry, of which there are no more than timers.
use Rattle.std.proofs.Common.{◌-◌, length}
use Rattle.min_timer.proofs.DueLemmas.{IsWalk}
use Rattle.min_timer.proofs.due.due_timers.Given as goal

abbrev pub invariant-loop-next : goal.invariant-loop-next
invariant-loop-next l = IsWalk l.timers l.time l.due.items l.next

abbrev pub decreases-loop-next : goal.decreases-loop-next
decreases-loop-next l = length l.timers - l.next
