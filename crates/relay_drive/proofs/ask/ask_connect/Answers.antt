use Rattle.std.proofs.Common.{[], refl}
use Rattle.std.proofs.lemmas.Result.{err_from_is_err_and}
use Rattle.ev_port.specs.Ends.{conn_step, conn_events}
use Rattle.relay_drive.proofs.GoesLemmas.{Grew-join, goes_nowhere}
use Rattle.relay_drive.proofs.HeardLemmas.{Heard-conn, goes_once, conn_same, same_as}
use Rattle.relay_drive.proofs.TiedLemmas.{one_end, conn_says}
use Rattle.relay_drive.proofs.ask.ask_connect.Goals as goal

pub returns-in_err-reserve-clause-went : goal.returns-in_err-reserve-clause-went
returns-in_err-reserve-clause-went g c =
    let p = err_from_is_err_and c.from_residual.result c.from_residual.ensures.1 in
    rw (p.1) (goes_nowhere refl refl c.reserve.ensures.trace (λ s t x k. k))

pub returns-clause-went : goal.returns-clause-went
returns-clause-went g c =
    let l0 = g.S.Scribe.trace c.args.scribe.now in
    let answer = c.connect_state-answer.result in
    let events = conn_events c.args.side answer in
    goes_once g.met.P.Port.waits_no_more l0 (g.S.Scribe.trace c.put.new.scribe) (g.P.Port.faults c.args.port.now)
    (g.P.Port.faults c.connect_state-answer.new.self) events refl
    (record { entries = refl; state = c.connect_answered.ensures })
    (same_as c.args.run.now.relay.state c.connect_answered.new.self.state _ c.connect_answered.ensures
    (conn_same c.args.run.now.relay.state c.args.side answer)) c.put.ensures.counted
    (Grew-join l0 (g.S.Scribe.trace c.reserve.new.self) (g.S.Scribe.trace c.put.new.scribe) [] events c.reserve.ensures.trace
    c.put.ensures.list) c.connect_state-answer.ensures.vouched
    (one_end (g.P.Port.ends c.args.port.now) (g.P.Port.ends c.connect_state-answer.new.self) c.args.side (conn_step answer) events
    (λ e. conn_says c.args.side e answer) c.connect_state-answer.ensures.ends) c.connect_state-answer.ensures.told
    (Heard-conn (g.P.Port.faults c.args.port.now) (g.P.Port.faults c.connect_state-answer.new.self) c.args.side answer
    c.connect_state-answer.ensures.cause)
