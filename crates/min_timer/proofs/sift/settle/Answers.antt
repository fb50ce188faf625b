-- The timer rises if it comes due before the one above it, and sinks otherwise.
use Rattle.std.proofs.Common.{◌∙◌, sym, ◌<◌, true, false, length, arith}
use Rattle.min_timer.specs.Order.{above}
use Rattle.min_timer.proofs.HeapLemmas.{IsEarlierAt, IsNotEarlierAt, tested_at, but-rises, but-sinks}
use Rattle.min_timer.proofs.sift.settle.Goals as goal
use Rattle.min_timer.proofs.sift.settle.Goals.{else-at-gt0-via-then-at-gt0+else-is_earlier, else-at-gt0-via-else-at-gt0}

pub rise-requires-clause-heap : goal.rise-requires-clause-heap
rise-requires-clause-heap c =
    let xs = c.args.timers.now in
    let at = c.args.at in
    let within : at < length xs = c.requires.bounds in
    let up : above at < length xs = omega arith in
    let first : IsEarlierAt xs at (above at) =
    tested_at xs at (above at) true within up (sym c.is_earlier.ensures ∙ c.if-is_earlier.true) in
    but-rises xs at c.requires.heap c.if-at-gt0.true first

pub sink-requires-clause-heap : goal.sink-requires-clause-heap
sink-requires-clause-heap c =
    let xs = c.args.timers.now in
    let at = c.args.at in
    let within : at < length xs = c.requires.bounds in
    let up : above at < length xs = omega arith in
    let last : 0 < at → IsNotEarlierAt xs at (above at) =
    elim c.else-at-gt0.branch [
      | else-at-gt0-via-then-at-gt0+else-is_earlier w ↦ λ pos.
          tested_at xs at (above at) false within up (sym w.is_earlier.ensures ∙ w.if-is_earlier.false)
      | else-at-gt0-via-else-at-gt0 w ↦ λ pos. absurd (omega arith)
    ] in
    but-sinks xs at c.requires.heap last
