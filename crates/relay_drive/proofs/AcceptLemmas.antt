-- Where accepting ends.
use Rattle.std.proofs.Common.{◌≡◌, inl, inr, ℕ, zero, suc, ◌+◌, ◌≤◌, Bool, false, ◌++◌, Option, sym, ◌∙◌, ap, subst, arith, append_assoc}
use Rattle.std.proofs.Common.{append-nil}
use Rattle.std.specs.Prelude.{fold}
use Rattle.std.proofs.lemmas.Bool.{ltb-false}
use Rattle.ev_types.specs.declared.side.SideId.{SideId}
use Rattle.ev_types.specs.Trace.{Trace}
use Rattle.relay_model.specs.Totals.{opened_by, opened_in_turn}
use Rattle.ev_types.specs.Told.{EndTold, PortTold}
use Rattle.ev_port.specs.Faults.{Faults}
use Rattle.relay_state.specs.State.{State}
use Rattle.relay_drive.specs.declared.run.Run.{Run}
use Rattle.relay_drive.specs.Phases.{can_open, OpensSome}
use Rattle.relay_drive.specs.Known.{Point, known}
use Rattle.relay_drive.specs.Advances.{Advances}
use Rattle.relay_drive.proofs.CalmLemmas.{in_turn-append}
use Rattle.relay_drive.proofs.KnownLemmas.{known_enough}
use Rattle.relay_drive.proofs.GoesLemmas.{Known, goes_knowing}

-- so many more were opened in this turn
pub opens_in_turn : (n : ℕ) (s new : State) (a t : Trace) → OpensSome n s a new → opened_in_turn (t ++ a) ≡ opened_in_turn t + n
opens_in_turn zero s new a t h =
    let none : opened_in_turn (t ++ a) ≡ opened_in_turn t = ap (λ z. opened_in_turn (t ++ z)) h.0 ∙ ap opened_in_turn (append-nil t) in
    omega (arith, none)
opens_in_turn (suc n) s new a t h =
    let before = opens_in_turn n s h.middle h.front t h.first in
    let all : opened_in_turn (t ++ a) ≡ fold opened_by (opened_in_turn (t ++ h.front)) h.back =
    ap (λ z. opened_in_turn (t ++ z)) h.joined ∙ ap opened_in_turn (sym (append_assoc t h.front h.back))
    ∙ in_turn-append (t ++ h.front) h.back in
    let one : fold opened_by (opened_in_turn (t ++ h.front)) h.back ≡ opened_in_turn (t ++ h.front) + 1 =
    ap (fold opened_by (opened_in_turn (t ++ h.front))) h.second.1.entries in
    omega (arith, before, all, one)

module _ {R : State → Trace → State → Type 0} {p : Bool} {old new : Run} {l l' : Option Trace} {Plan : Type 0} {k : Known Plan}
    {f f' : Faults} (v none_waits : Plan → Trace → Type 0) (told : PortTold) (ends : SideId → EndTold) where
  -- no more links may be opened in all
  pub accepted_all : can_open new.relay.state ≡ false →
      Advances R p old new l l' k (known Point.Accepting v none_waits told ends) f f' →
      Advances R p old new l l' k (known Point.Accepted v none_waits told ends) f f'
  accepted_all full g = goes_knowing g (λ t x fits before now.
      let s = new.relay.state in
      known_enough s.settings v none_waits told ends (t ++ g.added)
      (inr (subst (λ n. s.settings.links ≤ n) (sym fits.opened) (ltb-false s.plain.opened s.settings.links full))) x now)

-- as many were opened as a turn may open
pub accepted_most : {p : Bool} {old new : Run} {l l' : Option Trace} {f f' : Faults} {Plan : Type 0} (u none_waits : Plan →
    Trace → Type 0) (was : PortTold) (these : SideId → EndTold) (v : Plan → Trace → Type 0) (told : PortTold) (ends : SideId → EndTold) →
    Advances (OpensSome 64) p old new l l' (known Point.Begun u none_waits was these)
    (known Point.Accepting v none_waits told ends) f f' →
    Advances (OpensSome 64) p old new l l' (known Point.Begun u none_waits was these) (known Point.Accepted v none_waits told ends) f f'
accepted_most {old = old} {new = new} u none_waits was these v told ends g = goes_knowing g (λ t x fits before now.
    let s = new.relay.state in
    known_enough s.settings v none_waits told ends (t ++ g.added)
    (inl (opens_in_turn 64 old.relay.state s g.added t g.does ∙ ap (λ n. n + 64) before.1)) x now)
