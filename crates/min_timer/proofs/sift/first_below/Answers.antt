use Rattle.std.proofs.Common.{◌∙◌, sym, ◌<◌, ◌+◌, ◌*◌, true, false, length, arith}
use Rattle.min_timer.proofs.HeapLemmas.{first-alone, first-replaced, first-kept, tested_at}
use Rattle.min_timer.proofs.sift.first_below.Goals as goal
use Rattle.min_timer.proofs.sift.first_below.Goals.{then-is_earlier, else-is_earlier}

pub loop-other-init : goal.loop-other-init
loop-other-init c = first-alone c.args.timers.now (4 * c.args.at + 1)

-- the first one is within the list
within : (c : goal.In-loop-other) → c.loop-other.first < length c.args.timers.now
within c = omega (arith, c.loop-other.invariant.high, c.loop-other-test.true, c.min-other-end.ensures)

pub offset_bounds-timers-first : goal.offset_bounds-timers-first
offset_bounds-timers-first c = omega (arith, within c, c.well_formed.0.1)

pub bounds-timers-first : goal.bounds-timers-first
bounds-timers-first c = within c

pub loop-other-preserved : goal.loop-other-preserved
loop-other-preserved c =
    let xs = c.args.timers.now in
    let next : c.loop-other.other < length xs = omega (arith, c.loop-other-test.true, c.min-other-end.ensures) in
    let first : c.loop-other.first < length xs = omega (arith, c.loop-other.invariant.high, next) in
    elim c.if-is_earlier.branch [
      | then-is_earlier w ↦
          rw (w.first-is)
          (first-replaced xs (4 * c.args.at + 1) c.loop-other.other c.loop-other.first c.loop-other.invariant
          (tested_at xs c.loop-other.other c.loop-other.first true next first (sym c.is_earlier.ensures ∙ w.if-is_earlier.true)))
      | else-is_earlier w ↦
          rw (w.first-is)
          (first-kept xs (4 * c.args.at + 1) c.loop-other.other c.loop-other.first c.loop-other.invariant
          (tested_at xs c.loop-other.other c.loop-other.first false next first (sym c.is_earlier.ensures ∙ w.if-is_earlier.false)))
    ]

pub returns-clause-below : goal.returns-clause-below
returns-clause-below c =
    let inside : c.loop-other.first < length c.args.timers.now = omega (
      arith,
      c.loop-other.invariant.high,
      c.loop-other.auto.other-end
          (omega (arith, c.if-first-timers.false, c.min-other-end.ensures)),
      c.min-other-end.ensures,
    ) in (
      inside,
      omega (arith, c.loop-other.invariant.low),
      omega (
        arith,
        c.loop-other.invariant.low,
        c.loop-other.invariant.high,
        c.loop-other.auto.other-end
            (omega (arith, c.if-first-timers.false, c.min-other-end.ensures)),
        c.min-other-end.ensures,
      ),
    )

pub returns-clause-first : goal.returns-clause-first
returns-clause-first c = λ other d up inside same.
    c.loop-other.invariant.first other (omega (arith, same, up))
    (omega (arith, same, up, inside, c.min-other-end.ensures, c.loop-other-test.false)) d
