use Rattle.std.proofs.Common.{◌≡◌, ◌+◌, [], ◌∷◌, ◌++◌, length, take, get_or, ◌∙◌, ap, arith, length-append}
use Rattle.ev_types.specs.Trace.{Trace}
use Rattle.ev_port.specs.Polling.{ready_events}
use Rattle.relay_drive.proofs.GoesLemmas.{Grew-join}
use Rattle.relay_drive.proofs.EachLemmas.{taken_next}
use Rattle.relay_drive.proofs.PollLemmas.{ready_events-push}
use Rattle.relay_drive.proofs.poll.put_marks.Goals as goal

pub loop-want-preserved : goal.loop-want-preserved
loop-want-preserved g c =
    let ws = c.args.wants.now in
    let i = c.loop-want.want-index in
    let w = get_or ws i _ in
    let one : Trace = ready_events (w ∷ []) in
    let next : ready_events (take (i + 1) ws) ≡ ready_events (take i ws) ++ one =
    ap ready_events (taken_next ws i _ c.loop-want-test.true) ∙ ready_events-push (take i ws) w in
    let more : length (ready_events (take (i + 1) ws)) ≡ length (ready_events (take i ws)) + length one = ap length next
    ∙ length-append (ready_events (take i ws)) one in
    let l0 = g.S.Scribe.trace c.args.scribe.now in
    record {
      counted = omega (arith, more, c.loop-want.invariant.counted, c.put_mark.ensures.counted);
      list = rw (next) (Grew-join l0 (g.S.Scribe.trace c.loop-want.scribe) (g.S.Scribe.trace c.put_mark.new.scribe)
          (ready_events (take i ws)) one c.loop-want.invariant.list c.put_mark.ensures.list);
      room = omega (arith, c.loop-want.invariant.room, c.put_mark.ensures.room);
    }
