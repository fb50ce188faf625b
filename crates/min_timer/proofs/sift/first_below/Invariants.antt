-- Of the places below that were looked at, none has a timer that comes due before the first's.
use Rattle.std.proofs.Common.{◌+◌, ◌*◌}
use Rattle.min_timer.proofs.HeapLemmas.{IsFirstOf}
use Rattle.min_timer.proofs.sift.first_below.Given as goal

abbrev pub invariant-loop-other : goal.invariant-loop-other
invariant-loop-other l = IsFirstOf l.timers (4 * l.at + 1) l.other l.first
