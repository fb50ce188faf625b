-- The keys so far are those of the entries so far.
use Rattle.std.proofs.Common.{◌≡◌, map, take}
use Rattle.min_timer.proofs.due.due_keys.Given as goal

abbrev pub invariant-loop-timer : goal.invariant-loop-timer
invariant-loop-timer l = l.keys.items ≡ map (λ e. e.key) (take l.timer-index l.timer-items)
