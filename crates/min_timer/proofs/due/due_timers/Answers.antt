-- Each iteration takes the walk one entry further; at its end the walk has found all.
use Rattle.std.proofs.Common.{◌<◌, length, arith}
use Rattle.min_timer.proofs.DueLemmas.{walk-step, walk-end, next-within}
use Rattle.min_timer.proofs.due.due_timers.Goals as goal

pub loop-next-smaller : goal.loop-next-smaller
loop-next-smaller c =
    let before : c.loop-next.next < length c.loop-next.due.items = omega (arith, c.loop-next.due.ok.0) in
    let within = next-within c.args.timers.now c.args.time c.loop-next.due.items c.loop-next.next c.index.result.now
    c.loop-next.invariant before c.index.ensures in
    omega (arith, within.0, within.1)

pub loop-next-preserved : goal.loop-next-preserved
loop-next-preserved c =
    rw c.in_ok-push_due_below.ensures
    (walk-step c.args.timers.now c.args.time c.loop-next.due.items c.loop-next.next c.index.result.now c.loop-next.invariant
    (omega (arith, c.loop-next.due.ok.0)) c.index.ensures)

pub returns : goal.returns
returns c =
    walk-end c.args.timers.now c.args.time c.loop-next.due.items c.loop-next.next c.requires c.loop-next.invariant
    (omega (arith, c.loop-next.due.ok.0))
