use Rattle.std.proofs.Common.{◌≡◌, ◌≤◌, ◌++◌, ℕ, List, [], length, length-append, take, take-take, arith, refl, ap, ◌∙◌}
use Rattle.std.specs.Prelude.{vec_len}
use Rattle.std.proofs.lemmas.List.{take-append-le}
use Rattle.std.proofs.lemmas.Result.{err_from_is_err_and}
use Rattle.ev_types.specs.declared.answer.ReadAnswer.{ReadAnswer}
use Rattle.ev_types.specs.declared.answer.ReadAnswer.TheVariants as read
use Rattle.ev_port.specs.Ends.{ReadWithin, read_step, read_events, got_bytes}
use Rattle.relay_core.specs.Answered.{arrived_count}
use Rattle.relay_state.specs.State.{State}
use Rattle.relay_drive.specs.Calls.{after_read}
use Rattle.relay_drive.proofs.GoesLemmas.{Grew-none, Grew-join, goes_nowhere}
use Rattle.relay_drive.proofs.HeardLemmas.{Heard-read, goes_once, read_same, same_as}
use Rattle.relay_drive.proofs.TiedLemmas.{one_end, read_says}
use Rattle.relay_drive.proofs.ask.ask_read.Goals as goal

-- what a read put in front of a slice stands in front of the block that the slice lies in front of
in_front : (answer : ReadAnswer) (into rest after : List ℕ) (size : ℕ) → ReadWithin answer (length into) → length into ≤ size →
    take (arrived_count answer) (take size ((into ++ rest) ++ after)) ≡ got_bytes answer into
in_front (read.Got n) into rest after size within fits =
    take-take n size ((into ++ rest) ++ after) (omega (arith, within.1, fits))
    ∙ take-append-le n (into ++ rest) after (simp length-append (omega (arith, within.1)))
    ∙ take-append-le n into rest within.1
in_front read.Ended into rest after size within fits = refl
in_front read.NotYet into rest after size within fits = refl
in_front read.Failed into rest after size within fits = refl

pub returns-in_err-reserve_read-clause-went : goal.returns-in_err-reserve_read-clause-went
returns-in_err-reserve_read-clause-went g c =
    let p = err_from_is_err_and c.from_residual.result c.from_residual.ensures.1 in
    rw (p.1) (goes_nowhere c.reserve_read.ensures.state refl (Grew-none (g.S.Scribe.trace c.args.scribe.now)) (λ s t x k. k))

pub returns-in_err-reserve-clause-went : goal.returns-in_err-reserve-clause-went
returns-in_err-reserve-clause-went g c =
    let p = err_from_is_err_and c.from_residual-in_err-reserve.result c.from_residual-in_err-reserve.ensures.1 in
    rw (p.1) (goes_nowhere c.reserve_read.ensures.state refl c.reserve.ensures.trace (λ s t x k. k))

pub returns-clause-went : goal.returns-clause-went
returns-clause-went g c =
    let l0 = g.S.Scribe.trace c.args.scribe.now in
    let old = c.args.run.now.relay.state in
    let answer = c.read-answer.result in
    let into = c.read-answer.new.into in
    let events = read_events c.args.side into answer in
    let len : length into ≡ c.args.room = c.read-answer.auto.into ∙ c.split_at_mut-into.ensures.front_len in
    let state : c.read_answered.new.self.state ≡ after_read old c.args.side answer (got_bytes answer into) =
    c.read_answered.ensures.state
    ∙ ap (after_read c.reserve_read.new.self.state c.args.side answer)
    (in_front answer into c.split_at_mut-into.result.1.now _ (vec_len c.args.inbox.now) c.read-answer.ensures.within
    (omega (arith, len, c.requires.inbox)))
    ∙ ap (λ (s : State). after_read s c.args.side answer (got_bytes answer into)) c.reserve_read.ensures.state in
    goes_once g.met.P.Port.waits_no_more l0 (g.S.Scribe.trace c.put.new.scribe) (g.P.Port.faults c.args.port.now)
    (g.P.Port.faults c.read-answer.new.self) events refl (
      into,
      len,
      record { within = c.read-answer.ensures.within; entries = refl; state = state },
    )
    (same_as old c.read_answered.new.self.state _ state (read_same old c.args.side answer (got_bytes answer into))) c.put.ensures.counted
    (rw len
    (rw (← c.bytes_got.ensures)
    (Grew-join l0 (g.S.Scribe.trace c.reserve.new.self) (g.S.Scribe.trace c.put.new.scribe) [] _ c.reserve.ensures.trace
    c.put.ensures.list))) c.read-answer.ensures.vouched
    (one_end (g.P.Port.ends c.args.port.now) (g.P.Port.ends c.read-answer.new.self) c.args.side (read_step answer into) events
    (λ e. read_says c.args.side e into answer) c.read-answer.ensures.ends) c.read-answer.ensures.told
    (Heard-read (g.P.Port.faults c.args.port.now) (g.P.Port.faults c.read-answer.new.self) c.args.side into answer
    c.read-answer.ensures.cause)
