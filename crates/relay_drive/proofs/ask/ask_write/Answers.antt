use Rattle.std.proofs.Common.{◌≡◌, [], ◌∷◌, true, false, ◌==◌, length, nat_lt, refl, sym, ap, ◌∙◌, subst}
use Rattle.std.specs.Prelude.{MatchBool}
use Rattle.std.proofs.lemmas.Result.{err_from_is_err_and}
use Rattle.ev_types.specs.declared.answer.WriteAnswer.{WriteAnswer}
use Rattle.ev_types.specs.Trace.{Trace}
use Rattle.ev_types.specs.declared.entry.Entry.TheVariants as entry
use Rattle.ev_port.specs.Ends.{write_step, write_events, took_bytes}
use Rattle.relay_state.specs.Rooms.{offer, write_room}
use Rattle.relay_drive.specs.Advances.{Heard}
use Rattle.relay_drive.specs.Calls.{is_memory, Writes}
use Rattle.relay_drive.specs.Steps.{Nothing}
use Rattle.relay_drive.proofs.GoesLemmas.{Grew-none, Grew-join, goes_as, goes_nowhere, goes_silent}
use Rattle.relay_drive.proofs.HeardLemmas.{Heard-write, goes_once, write_same, same_as, no_write, no_write_ends, some_write, memory_is}
use Rattle.relay_drive.proofs.TiedLemmas.{step_of, one_end, write_says}
use Rattle.relay_drive.proofs.KnownLemmas.{known_served}
use Rattle.relay_drive.proofs.TookLemmas.{taken-offered, offered-some}
use Rattle.relay_drive.proofs.ask.ask_write.Goals as goal

pub write_answered-requires-clause-within : goal.write_answered-requires-clause-within
write_answered-requires-clause-within g c =
    taken-offered c.args.run.now.relay.state c.args.side c.write-answer.result (rw (c.offer-offer.ensures) at c.write-answer.ensures.within)

pub returns-in_err-reserve-clause-went : goal.returns-in_err-reserve-clause-went
returns-in_err-reserve-clause-went g c =
    let p = err_from_is_err_and c.from_residual.result c.from_residual.ensures.1 in
    rw (p.1) (goes_nowhere refl refl c.reserve.ensures.trace (λ s t x k. k))

pub returns-then-is_memory-clause-went : goal.returns-then-is_memory-clause-went
returns-then-is_memory-clause-went g c =
    let from = c.offer-offer.result.now in
    let memory : is_memory c.write-answer.result ≡ true = sym c.is_memory.ensures ∙ c.if-is_memory.true in
    let vouched = no_write (g.P.Port.vouches c.args.port.now) (g.P.Port.vouches c.write-answer.new.self) c.args.side from
    c.write-answer.result memory c.write-answer.ensures.vouched in
    let ends = no_write_ends (g.P.Port.ends c.args.port.now) (g.P.Port.ends c.write-answer.new.self) c.args.side from
    c.write-answer.result memory c.write-answer.ensures.ends in
    goes_silent refl refl c.reserve.ensures.trace
    (λ t. known_served c.args.run.now.relay.state.settings (g.P.Port.vouches c.args.port.now)
    (g.P.Port.vouches c.write-answer.new.self) g.P.Port.none_waits (g.P.Port.told c.args.port.now)
    (g.P.Port.told c.write-answer.new.self) (g.P.Port.ends c.args.port.now) (g.P.Port.ends c.write-answer.new.self) t
    g.met.P.Port.waits_no_more [] refl vouched ends c.write-answer.ensures.told)
    (memory_is (g.P.Port.faults c.args.port.now) (g.P.Port.faults c.write-answer.new.self) c.args.side from c.write-answer.result
    memory c.write-answer.ensures.cause)

pub returns-then-is_empty-clause-went : goal.returns-then-is_empty-clause-went
returns-then-is_empty-clause-went g c =
    let s = c.args.run.now.relay.state in
    let e = c.args.side in
    let none : nat_lt 0 (write_room s e) ≡ false =
    offered-some s e true (ap (λ z. length z == 0) (sym c.offer-offer.ensures) ∙ sym c.is_empty.ensures ∙ c.if-is_empty.true) in
    goes_as (λ a p. subst (λ b. MatchBool b ((answer : WriteAnswer) × Writes e answer s a s) (Nothing s a s)) (sym none) p)
    (goes_nowhere refl refl (Grew-none (g.S.Scribe.trace c.args.scribe.now)) (λ s t x k. k))

pub returns-clause-went : goal.returns-clause-went
returns-clause-went g c =
    let l0 = g.S.Scribe.trace c.args.scribe.now in
    let old = c.args.run.now.relay.state in
    let answer = c.write-answer.result in
    let from = offer old c.args.side in
    let one : Trace = (entry.Write c.args.side (length from) answer, took_bytes answer from) ∷ [] in
    let some : is_memory answer ≡ false = sym c.is_memory.ensures ∙ c.if-is_memory.false in
    let is : write_events c.args.side from answer ≡ one = some_write c.args.side from answer some in
    let new = c.write_answered.new.self.state in
    let offered : nat_lt 0 (write_room old c.args.side) ≡ true =
    offered-some old c.args.side false
    (ap (λ z. length z == 0) (sym c.offer-offer.ensures) ∙ sym c.is_empty.ensures ∙ c.if-is_empty.false) in
    goes_as {R = Writes c.args.side answer}
    (λ a p. subst (λ b. MatchBool b ((answer : WriteAnswer) × Writes c.args.side answer old a new) (Nothing old a new))
    (sym offered) (answer, p))
    (goes_once g.met.P.Port.waits_no_more l0 (g.S.Scribe.trace c.put.new.scribe) (g.P.Port.faults c.args.port.now)
    (g.P.Port.faults c.write-answer.new.self) one refl
    (record {
      done = some;
      within = rw (c.offer-offer.ensures) at c.write-answer.ensures.within;
      entries = sym is;
      state = c.write_answered.ensures;
    })
    (same_as old c.write_answered.new.self.state _ c.write_answered.ensures (write_same old c.args.side answer)) c.put.ensures.counted
    (Grew-join l0 (g.S.Scribe.trace c.reserve.new.self) (g.S.Scribe.trace c.put.new.scribe) [] one c.reserve.ensures.trace
    (rw (c.bytes_taken.ensures, c.offer-offer.ensures) at c.put.ensures.list))
    (rw (c.offer-offer.ensures, is) at c.write-answer.ensures.vouched)
    (one_end (g.P.Port.ends c.args.port.now) (g.P.Port.ends c.write-answer.new.self) c.args.side (write_step answer from) one
    (λ e. ap (step_of e) (sym is) ∙ write_says c.args.side e from answer)
    (rw (c.offer-offer.ensures) at c.write-answer.ensures.ends)) c.write-answer.ensures.told
    (subst (λ z. Heard (g.P.Port.faults c.args.port.now) (g.P.Port.faults c.write-answer.new.self) z false) is
    (Heard-write (g.P.Port.faults c.args.port.now) (g.P.Port.faults c.write-answer.new.self) c.args.side from answer
    c.write-answer.ensures.cause)))
