-- What a script port tells of an end, as calls change it.
use Rattle.std.proofs.Common.{◌≡◌, ◌≢◌, ℕ, ◌+◌, ◌*◌, true, false, ◌&&◌, nat_eq, Option, Some, None, refl, ap, arith, inl, inr, ◌⊎◌}
use Rattle.std.specs.Prelude.{slice_get, option_map}
use Rattle.std.specs.Option.{option_map_or}
use Rattle.std.proofs.lemmas.Bool.{cases_eq, cases_Bool}
use Rattle.std.proofs.lemmas.Bool.Decides.{eqb_tells}
use Rattle.ev_types.specs.declared.side.Side.{Side}
use Rattle.ev_types.specs.declared.side.Side.TheVariants.{In, Out}
use Rattle.ev_types.specs.declared.side.SideId.{SideId}
use Rattle.ev_types.specs.Sides.{number, half, same_end, same_side}
use Rattle.ev_port.specs.EndSteps.{EndStep, EndWent, EndsWent}
use Rattle.ev_port.proofs.StepLemmas.{EndWent-none}
use Rattle.script_port.specs.ScriptState.{EndState, LinksState}
use Rattle.script_port.specs.ScriptLinks.{at_end, end_of}
use Rattle.script_port.specs.ScriptTold.{told_of_end, nothing_told, ends_told}
use Rattle.script_port.proofs.ListLemmas.{slice_get-changed_same, slice_get-changed_other}

-- Nothing is told

-- of an end of which nothing is told everything may be said
pub EndWent-nothing : (step : EndStep) → EndWent nothing_told nothing_told step
EndWent-nothing step = record {
  handed_out = tt;
  taken = tt;
  made_connected = tt;
  ended = tt;
  connected = tt;
  write_ended = tt;
  closed = tt;
  reads = tt;
  writes = tt;
  checks = tt;
  rooms = tt;
  offers = tt;
  read_wants = tt;
  write_wants = tt;
  read_marks = tt;
  write_marks = tt;
}

-- Ends by their numbers

same_number : (l m : ℕ) (s t : Side) → 2 * l + half s ≡ 2 * m + half t → ◌≡◌ {A = SideId} (record { link = l; side = s })
    (record { link = m; side = t })
same_number l m In In e = ap (λ n. record { link = n; side = In }) (omega arith)
same_number l m Out Out e = ap (λ n. record { link = n; side = Out }) (omega arith)
same_number l m In Out e = absurd (omega arith)
same_number l m Out In e = absurd (omega arith)

pub other_number : (a b : SideId) → a ≢ b → number a ≢ number b
other_number a b h e = h (same_number a.link b.link a.side b.side e)

same_by_parts : (l m : ℕ) (s t : Side) → ((nat_eq l m && same_side s t ≡ true) × (2 * l + half s ≡ 2 * m + half t)) ⊎
    ((nat_eq l m && same_side s t ≡ false) × (2 * l + half s ≢ 2 * m + half t))
same_by_parts l m In In = elim (eqb_tells l m) [ inl t ↦ inl (rw t.0, omega (arith, t.1)) | inr t ↦ inr (rw t.0, λ e. t.1 (omega arith)) ]
same_by_parts l m Out Out = elim (eqb_tells l m) [ inl t ↦ inl (rw t.0, omega (arith, t.1)) | inr t ↦ inr (rw t.0, λ e. t.1 (omega arith)) ]
same_by_parts l m In Out = inr (elim (cases_Bool (nat_eq l m)) [ inl t ↦ rw t | inr t ↦ rw t ], λ e. absurd (omega arith))
same_by_parts l m Out In = inr (elim (cases_Bool (nat_eq l m)) [ inl t ↦ rw t | inr t ↦ rw t ], λ e. absurd (omega arith))

-- two names name one end just where their numbers are one
pub same_end_tells : (a b : SideId) → ((same_end a b ≡ true) × (number a ≡ number b)) ⊎ ((same_end a b ≡ false) × (number a ≢ number b))
same_end_tells a b = same_by_parts a.link b.link a.side b.side

-- A change at one end

pub went_if : (f : EndState → EndState) (step : EndStep) (o : Option EndState) → ((s : EndState) → o ≡ Some s → EndWent
    (told_of_end s) (told_of_end (f s)) step) →
    EndWent (option_map_or told_of_end o nothing_told) (option_map_or told_of_end (option_map f o) nothing_told) step
went_if f step None h = EndWent-nothing step
went_if f step (Some s) h = h s refl

-- one end goes a step, and no other does
pub ends_step : (l : LinksState) (end : SideId) (f : EndState → EndState) (step : EndStep) →
    ((s : EndState) → end_of l end ≡ Some s → EndWent (told_of_end s) (told_of_end (f s)) step) →
    EndsWent (ends_told l) (ends_told (at_end end f l)) end step
ends_step l end f step h = record {
  own =
      let here = slice_get-changed_same f l.ends (number end) in
      rw here (went_if f step (slice_get l.ends (number end)) h);
  others = λ e differs.
      let elsewhere = slice_get-changed_other f l.ends (number end) (number e) (other_number e end differs) in
      rw elsewhere (EndWent-none (ends_told l e));
}

kept_if : {X : Type 0} (g : EndState → X) (d : X) (f : EndState → EndState) → ((s : EndState) → g (f s) ≡ g s) →
    (o : Option EndState) → option_map_or g (option_map f o) d ≡ option_map_or g o d
kept_if g d f h None = refl
kept_if g d f h (Some s) = h s

-- a change that leaves what is seen of an end
pub kept_at_end : {X : Type 0} (g : EndState → X) (d : X) (l : LinksState) (end e : SideId) (f : EndState → EndState) →
    ((s : EndState) → g (f s) ≡ g s) →
    option_map_or g (end_of (at_end end f l) e) d ≡ option_map_or g (end_of l e) d
kept_at_end g d l end e f h =
    elim (cases_eq (number e) (number end)) [
      | inl same ↦
          let here = slice_get-changed_same f l.ends (number end) in
          rw (same, here) (kept_if g d f h (slice_get l.ends (number end)))
      | inr other ↦
          let elsewhere = slice_get-changed_other f l.ends (number end) (number e) other in
          rw elsewhere
    ]
