-- What entries behind accepting leave: the counts of turns and links, and that no link waits; and what a write takes.
use Rattle.std.proofs.Common.{◌≡◌, ◌<◌, Bool, true, false, not, ◌==◌, nat_lt, ◌||◌}
use Rattle.std.proofs.Common.{if◌then◌else◌, [], ◌∷◌, ◌++◌, length, count_by, refl, ◌∙◌, ap, arith}
use Rattle.std.specs.List.{list_all, list_any}
use Rattle.std.proofs.lemmas.Bool.{and_parts, eqb-true, eqb-false, lt-ltb}
use Rattle.std.proofs.lemmas.List.{length-take}
use Rattle.std.proofs.lemmas.List.Sums.{sum_by-append}
use Rattle.ev_types.specs.declared.side.SideId.{SideId}
use Rattle.ev_types.specs.declared.answer.WriteAnswer.{WriteAnswer}
use Rattle.ev_types.specs.declared.answer.WriteAnswer.TheVariants as write
use Rattle.ev_types.specs.declared.entry.Entry.TheVariants as entry
use Rattle.ev_types.specs.Trace.{Event, Trace}
use Rattle.relay_model.specs.RatesKept.{is_turn}
use Rattle.relay_model.specs.Totals.{opened, opened_in_turn}
use Rattle.relay_model.specs.Plays.{is_served}
use Rattle.ev_port.specs.Vouching.{tells_links, TellsNoLinks}
use Rattle.ev_port.specs.Ends.{WriteWithin}
use Rattle.relay_state.specs.State.{State}
use Rattle.relay_state.specs.Rooms.{waiting_for, write_room, offer}
use Rattle.relay_core.specs.Answered.{TakesAtMost}
use Rattle.relay_steps.proofs.WriteSteps.{offer-length}
use Rattle.relay_drive.proofs.CalmLemmas.{Calm, calm_list, served_list, opened-append, in_turn-append}

-- what is looked at of a trace, to know whether all was accepted
pub record Counts (t u : Trace) : Type 0 where
  pub turns : count_by is_turn u ≡ count_by is_turn t
  pub opened : opened u ≡ opened t
  pub in_turn : opened_in_turn u ≡ opened_in_turn t

-- entries behind accepting change nothing of that
pub counts_served : (t u : Trace) → list_all is_served u ≡ true → Counts t (t ++ u)
counts_served t u h =
    let c : Calm u = calm_list u (served_list u h) in
    record {
      turns = (let parts = sum_by-append (λ x. if is_turn x then 1 else 0) t u in let none = c.turns in omega (arith, parts, none));
      opened = (let parts = opened-append t u in let none = c.opens in omega (arith, parts, none));
      in_turn = in_turn-append t u ∙ c.in_turn (opened_in_turn t);
    }

-- Where no link waits, none does behind entries that begin no turn and open no link.
abbrev pub WaitsNoMore : {Plan : Type 0} → (Plan → Trace → Type 0) → Type 0
WaitsNoMore {Plan} none_waits = (plan : Plan) (t u : Trace) → TellsNoLinks u → none_waits plan t → none_waits plan (t ++ u)

served-tells : (x : Event) → is_served x ≡ true → tells_links x ≡ false
served-tells (entry.Turn ms, bytes) h = absurd (cc)
served-tells (entry.Opened link connected, bytes) h = absurd (cc)
served-tells _ h = refl

-- entries behind accepting are such
pub served-tell_none : (u : Trace) → list_all is_served u ≡ true → TellsNoLinks u
served-tell_none [] h = refl
served-tell_none (x ∷ u) h =
    let parts = and_parts (is_served x) (list_all is_served u) h in
    ap (λ b. b || list_any tells_links u) (served-tells x parts.0) ∙ served-tell_none u parts.1

-- what is offered is no more than may be written, so that no more is taken
pub taken-offered : (s : State) (e : SideId) (answer : WriteAnswer) → WriteWithin answer (length (offer s e)) →
    TakesAtMost (write_room s e) answer
taken-offered s e (write.Took n) h =
    let most = length-take (write_room s e) (waiting_for s e) in
    let within = h.1 in
    omega (arith, most, within)
taken-offered s e write.NotYet h = tt
taken-offered s e write.Failed h = tt
taken-offered s e write.NoMemory h = tt

-- something may be written where something is offered
pub offered-some : (s : State) (e : SideId) (none : Bool) → length (offer s e) == 0 ≡ none → nat_lt 0 (write_room s e) ≡ not none
offered-some s e true h =
    let many = offer-length s e in
    let zero = eqb-true (length (offer s e)) 0 h in
    let none : write_room s e ≡ 0 = omega (arith, many, zero) in
    ap (nat_lt 0) none
offered-some s e false h =
    let many = offer-length s e in
    let some = eqb-false (length (offer s e)) 0 h in
    let room : 0 < write_room s e = omega (arith, many, some) in
    lt-ltb 0 (write_room s e) room
