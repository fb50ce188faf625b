-- Faults of sides, and that closing looks for each of them.
use Rattle.std.proofs.Common.{◌≡◌, ℕ, zero, suc, ◌+◌, ◌<◌, ◌≤◌, Bool, true, false, ◌||◌, not, if◌then◌else◌, List, [], ◌∷◌, Option, Some}
use Rattle.std.proofs.Common.{None, ◌⊎◌, inl, inr, refl, sym, ◌∙◌, ap, arith}
use Rattle.std.specs.Prelude.{option_map, ⊤, is_some}
use Rattle.std.specs.List.{list_any}
use Rattle.std.proofs.lemmas.Bool.{and_parts, or_parts, or_left, or_right, not-true, cases_order}
use Rattle.ev_types.specs.declared.side.Side.{Side}
use Rattle.ev_types.specs.declared.side.Side.TheVariants.{In, Out}
use Rattle.ev_types.specs.declared.side.SideId.{SideId}
use Rattle.ev_types.specs.declared.why.Cause.TheVariants as cause
use Rattle.ev_types.specs.declared.entry.Entry.{Entry}
use Rattle.ev_types.specs.Sides.{same_end}
use Rattle.ev_types.specs.Trace.{Event}
use Rattle.relay_model.specs.Settings.{Settings}
use Rattle.relay_model.specs.Plain.{Plain, PlainSide, side_at, is_live}
use Rattle.relay_model.specs.Past.{Past}
use Rattle.relay_model.specs.Close.{CloseStep, closing_of, closing_from, fault, steps_left}
use Rattle.relay_model.specs.Stages.{Stage, Between, Firing, Freeing, Closing}
use Rattle.relay_model.specs.RatesKept.{is_turn}
use Rattle.relay_model.specs.Told.{freed_by, failed_by, is_freeing}
use Rattle.relay_model.proofs.EndLemmas.{same_end-refl}
use Rattle.relay_model.proofs.SeenLemmas.{Seen, seen}
use Rattle.relay_model.proofs.EffectLemmas.{SideEffect, or_no}
use Rattle.std.proofs.lemmas.List.Folds.{list_any-append}
use Rattle.relay_model.proofs.FireLemmas.{is_open_stage}
use Rattle.relay_model.proofs.KindLemmas.{ClosedKind}

-- Faults

-- a side that is to be freed for a fault
abbrev pub is_faulty : Seen → Bool
is_faulty x = x.failed || x.expired || is_some x.bad

pub not-faulty : (x : PlainSide) → fault x ≡ None → is_faulty (seen x) ≡ false
not-faulty x h = go x.failed x.expired x.bad h
  where
    go : (a b : Bool) (o : Option ℕ) → (if a then Some cause.Failed else (if b then Some cause.Timeout else option_map cause.Filter
        o)) ≡ None → (a || b || is_some o) ≡ false
    go true b o h = absurd (cc)
    go false true o h = absurd (cc)
    go false false (Some n) h = absurd (cc)
    go false false None h = refl

pub no-fault : (x : PlainSide) → is_faulty (seen x) ≡ false → fault x ≡ None
no-fault x h = go x.failed x.expired x.bad h
  where
    go : (a b : Bool) (o : Option ℕ) → (a || b || is_some o) ≡ false → (if a then Some cause.Failed
        else (if b then Some cause.Timeout else option_map cause.Filter o)) ≡ None
    go true b o h = absurd (cc)
    go false true o h = absurd (cc)
    go false false (Some n) h = absurd (cc)
    go false false None h = refl

-- What closing has still to look at

abbrev pub looks_at : SideId → CloseStep → Bool
looks_at e (CloseStep.Faulty z) = same_end z e
looks_at e _ = false

-- a faulty side waits until closing has looked at it
abbrev pub Awaits : Stage → SideId → Type 0
Awaits Between e = ⊥
Awaits (Closing cs) e = list_any (looks_at e) cs ≡ true
Awaits _ e = ⊤

-- so does each live side that is faulty
abbrev pub FaultsAwait : Stage → Plain → Type 0
FaultsAwait x s = (e : SideId) → e.link < s.opened → is_live s e ≡ true → is_faulty (seen (side_at s e)) ≡ true → Awaits x e

pub open-awaits : (x : Stage) (e : SideId) → is_open_stage x ≡ true → Awaits x e
open-awaits Between e h = absurd (cc)
open-awaits (Firing f rs) e h = tt
open-awaits (Freeing gone f rs) e h = tt
open-awaits (Closing cs) e h = absurd (cc)
open-awaits _ e h = tt

looked-here : (k left : ℕ) (e : SideId) → e.link ≡ k → (z : Side) → e.side ≡ z → list_any (looks_at e) (closing_from k (suc left)) ≡ true
looked-here k left e same In z =
    let i : SideId = record { link = k; side = In } in
    let is : e ≡ i = λ j. record { link = same j; side = z j } in
    or_left (same_end i e) _ (ap (λ v. same_end i v) is ∙ same_end-refl i)
looked-here k left e same Out z =
    let o : SideId = record { link = k; side = Out } in
    let is : e ≡ o = λ j. record { link = same j; side = z j } in
    or_right (same_end (record { link = k; side = In }) e) _ (or_left (same_end o e) _ (ap (λ v. same_end o v) is ∙ same_end-refl o))

looked-later : (k left : ℕ) (e : SideId) → list_any (looks_at e) (closing_from (k + 1) left) ≡ true → list_any (looks_at e)
    (closing_from k (suc left)) ≡ true
looked-later k left e h = list_any-append (looks_at e) (closing_of k) (closing_from (k + 1) left) ∙ or_right
    (list_any (looks_at e) (closing_of k)) _ h

pub looked-for : (k left : ℕ) (e : SideId) → k ≤ e.link → e.link < k + left → list_any (looks_at e) (closing_from k left) ≡ true
looked-for k zero e h l = absurd (omega arith)
looked-for k (suc left) e h l = go (cases_order k e.link) (λ lt. looked-for (k + 1) left e (omega arith) (omega arith))
  where
    go : (k ≡ e.link) ⊎ ((k < e.link) ⊎ (e.link < k)) → (k < e.link → list_any (looks_at e) (closing_from (k + 1) left) ≡ true) →
        list_any (looks_at e) (closing_from k (suc left)) ≡ true
    go (inl same) later = looked-here k left e (sym same) e.side refl
    go (inr (inl lt)) later = looked-later k left e (later lt)
    go (inr (inr gt)) later = absurd (omega arith)

-- a step of closing leaves faults, and none of its entries tells of a failure or a turn
pub closed-fails : (g : Settings) (p : Past) (s : Plain) (c : CloseStep) (e : Entry) → ClosedKind g p s c e → (z : SideId) →
    (failed_by z (e, []) ≡ false) × (is_turn (e, []) ≡ false) × (looks_at z c ≡ true → freed_by z (e, []) ≡ true)
closed-fails g p s c e (ClosedKind.faulty a b) z = (refl, refl, λ h. h)
closed-fails g p s c e (ClosedKind.write_ended a b) z = (refl, refl, λ h. absurd (cc))
closed-fails g p s c e (ClosedKind.in_done a b d f) z = (refl, refl, λ h. absurd (cc))
closed-fails g p s c e (ClosedKind.out_done) z = (refl, refl, λ h. absurd (cc))
closed-fails g p s c e (ClosedKind.peer_gone a b d) z = (refl, refl, λ h. absurd (cc))
closed-fails g p s c e (ClosedKind.shut a b) z = (refl, refl, λ h. absurd (cc))

pub rest : (a b : Bool) → a ≡ false → (a || b) ≡ true → b ≡ true
rest true b n h = absurd (cc)
rest false b n h = h

pub steps-looked : (c : CloseStep) (cs : List CloseStep) (z : SideId) → looks_at z c ≡ false → list_any (looks_at z) (c ∷ cs) ≡
    true → list_any (looks_at z) (steps_left c cs) ≡ true
steps-looked (CloseStep.Faulty e) cs z n h = rest (same_end e z) _ n h
steps-looked (CloseStep.EndWriting e) cs z n h = h
steps-looked (CloseStep.BothDone k) cs z n h = h
steps-looked (CloseStep.OutDone k) cs z n h = h
steps-looked (CloseStep.PeerGone e) cs z n h = h
steps-looked (CloseStep.Shut e) cs z n h = h

-- what an entry that is no beginning of a turn does to a faulty side
pub old-faulty : (e : SideId) (y : Event) (after : Stage) (old new : Seen) → SideEffect e y after old new → is_turn y ≡ false →
    failed_by e y ≡ false → is_faulty new ≡ true → is_faulty old ≡ true
old-faulty e y after old new k turn fails h =
    let a : new.failed ≡ old.failed = k.failed ∙ sym (or_no old.failed (failed_by e y) fails) in
    let b : new.expired ≡ old.expired = k.expired turn in
    let c : new.bad ≡ old.bad = k.bad in
    (λ i. (sym a) i || (sym b) i || is_some ((sym c) i)) ∙ h

pub was-live : (e : SideId) (y : Event) (after : Stage) (old new : Seen) → SideEffect e y after old new → new.live ≡ true →
    (old.live ≡ true) × (freed_by e y ≡ false)
was-live e y after old new k h =
    let parts = and_parts old.live (not (freed_by e y || is_freeing after e)) (sym k.live ∙ h) in
    (parts.0, (or_parts (freed_by e y) (is_freeing after e) (not-true _ parts.1)).0)
