-- A step down: the timer changes places with the first of those below it, which comes due earlier.
use Rattle.std.proofs.Common.{◌≡◌, ◌∙◌, sym, ap, ◌<◌, true, false, length, arith}
use Rattle.std.proofs.lemmas.List.Edits.{length-swap}
use Rattle.std.proofs.lemmas.List.Sorted.{IsPermutation-trans, IsPermutation-swap}
use Rattle.min_timer.proofs.HeapLemmas.{IsEarlierAt, IsNotEarlierAt, tested_at, sink-step, sink-done-first}
use Rattle.min_timer.proofs.sift.sink.Goals as goal

-- where the first of those below does not come before the timer, none does
pub returns-then-not-is_earlier-clause-heap : goal.returns-then-not-is_earlier-clause-heap
returns-then-not-is_earlier-clause-heap c =
    let inv = c.loop-below.invariant in
    let xs = c.loop-below.timers in
    let at = c.loop-below.at in
    let k = c.in-Some.below in
    let below = c.in-Some.ensures.below in
    let last : IsNotEarlierAt xs k at =
    tested_at xs k at false below.0 inv.within (sym c.is_earlier.ensures ∙ c.if-not-is_earlier.true) in
    sink-done-first xs at k inv.heap c.in-Some.ensures.first last

pub loop-below-preserved : goal.loop-below-preserved
loop-below-preserved c =
    let inv = c.loop-below.invariant in
    let xs = c.loop-below.timers in
    let ys = c.exchange.new.timers in
    let at = c.loop-below.at in
    let k = c.in-Some.below in
    let below = c.in-Some.ensures.below in
    let within : at < length xs = inv.within in
    let after = c.exchange.ensures.after in
    let long : length ys ≡ length xs = ap length after ∙ length-swap xs at k in
    let first : IsEarlierAt xs k at =
    tested_at xs k at true below.0 within (sym c.is_earlier.ensures ∙ c.if-not-is_earlier.false) in
    record {
      within = omega (arith, below.0);
      long = long ∙ inv.long;
      same = IsPermutation-trans _ _ _ inv.same (IsPermutation-swap xs ys at k within below.0 after);
      heap = sink-step xs ys at k inv.heap below.1 below.0 below.2 first c.in-Some.ensures.first after;
      seated = c.exchange.ensures.seated;
      count = c.exchange.ensures.count ∙ inv.count;
    }
