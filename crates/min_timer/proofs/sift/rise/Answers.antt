-- A step up: the timer changes places with the one above it, which comes due later.
use Rattle.std.proofs.Common.{◌≡◌, ◌∙◌, sym, ap, ◌<◌, true, length, arith}
use Rattle.std.proofs.lemmas.List.Edits.{length-swap}
use Rattle.std.proofs.lemmas.List.Sorted.{IsPermutation-trans, IsPermutation-swap}
use Rattle.min_timer.specs.Order.{above}
use Rattle.min_timer.proofs.HeapLemmas.{IsEarlierAt, tested_at, rise-step}
use Rattle.min_timer.proofs.sift.rise.Goals as goal

pub loop-at-preserved : goal.loop-at-preserved
loop-at-preserved c =
    let inv = c.loop-at.invariant in
    let xs = c.loop-at.timers in
    let ys = c.exchange.new.timers in
    let at = c.loop-at.at in
    let pos : 0 < at = c.loop-at-test.true in
    let within : at < length xs = inv.within in
    let up : above at < length xs = omega arith in
    let after = c.exchange.ensures.after in
    let long : length ys ≡ length xs = ap length after ∙ length-swap xs at (above at) in
    let first : IsEarlierAt xs at (above at) =
    tested_at xs at (above at) true within up (sym c.is_earlier.ensures ∙ c.if-not-is_earlier.false) in
    record {
      within = omega arith;
      long = long ∙ inv.long;
      same = IsPermutation-trans _ _ _ inv.same (IsPermutation-swap xs ys at (above at) within up after);
      heap = rise-step xs ys at inv.heap pos within first after;
      seated = c.exchange.ensures.seated;
      count = c.exchange.ensures.count ∙ inv.count;
    }
