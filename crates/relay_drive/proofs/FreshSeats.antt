-- Hooks of which none was called yet are seated, for the sides of the slots that are taken.
use Rattle.std.proofs.Common.{◌≡◌, inl, inr, ℕ, zero, suc, ◌+◌, ◌<◌, ◌≤◌, Bool, true, false, ◌&&◌, ◌||◌, nat_lt, if◌then◌else◌, List}
use Rattle.std.proofs.Common.{[], ◌∷◌, length, Option, Some, None, refl, sym, ◌∙◌, ap, subst, arith, get_or}
use Rattle.std.specs.Prelude.{filter, is_some}
use Rattle.std.specs.List.{list_any}
use Rattle.std.specs.Option.{option_or}
use Rattle.std.proofs.lemmas.Bool.{ltb-false, ltb-true, cases_lt}
use Rattle.std.proofs.lemmas.List.{get_or_past, length-map}
use Rattle.ev_types.specs.declared.settings.Settings.{Settings}
use Rattle.ev_types.specs.declared.side.Side.{Side}
use Rattle.ev_types.specs.declared.side.Side.TheVariants.{In, Out}
use Rattle.ev_types.specs.declared.side.SideId.{SideId}
use Rattle.ev_types.specs.Sides.{number, same_end}
use Rattle.relay_model.proofs.EndLemmas.{same_end-eq, same_end-refl}
use Rattle.relay_model.specs.Plain.{sides_from, sides_where}
use Rattle.relay_state.specs.Closing.{in_side, out_side}
use Rattle.relay_waits.specs.WaitsValue.{hooks_of}
use Rattle.relay_core.specs.declared.rate_groups.RateGroups.{RateGroups}
use Rattle.relay_drive.specs.DriveValue.{new_drive}
use Rattle.relay_drive.specs.Seats.{hook_at, seat, seated_sides, slots_taken, AreFresh, AreSeated}

-- Sides in a list

abbrev among : List SideId → SideId → Bool
among xs e = list_any (λ x. same_end x e) xs

or-first : (a b : Bool) → a ≡ true → (a || b) ≡ true
or-first true b h = refl
or-first false b h = absurd (cc)

or-second : (a b : Bool) → a ≡ false → (a || b) ≡ b
or-second true b h = absurd (cc)
or-second false b h = refl

and-false : (a b : Bool) → b ≡ false → (a && b) ≡ false
and-false true b h = h
and-false false b h = refl

-- a side that is among all, and would be chosen, is among those that were
chosen-in : (q : SideId → Bool) (xs : List SideId) (e : SideId) → q e ≡ true → among xs e ≡ true → among (filter q xs) e ≡ true
chosen-in q [] e would h = absurd (cc)
chosen-in q (x ∷ xs) e would h = go (λ k. chosen-in q xs e would k) (same_end x e) (q x) refl refl
  where
    go : (among xs e ≡ true → among (filter q xs) e ≡ true) → (s c : Bool) → same_end x e ≡ s → q x ≡ c →
        among (if c then x ∷ filter q xs else filter q xs) e ≡ true
    go rest true true is on = or-first (same_end x e) (among (filter q xs) e) is
    go rest true false is off =
        absurd (let bad : true ≡ false = sym would ∙ ap q (sym (same_end-eq x e is)) ∙ off in cc)
    go rest false true is on =
        or-second (same_end x e) (among (filter q xs) e) is ∙ rest (sym (or-second (same_end x e) (among xs e) is) ∙ h)
    go rest false false is off = rest (sym (or-second (same_end x e) (among xs e) is) ∙ h)

-- and one that would not be chosen is not
chosen-out : (q : SideId → Bool) (xs : List SideId) (e : SideId) → q e ≡ false → among (filter q xs) e ≡ false
chosen-out q [] e off = refl
chosen-out q (x ∷ xs) e off = go (chosen-out q xs e off) (same_end x e) (q x) refl refl
  where
    go : among (filter q xs) e ≡ false → (s c : Bool) → same_end x e ≡ s → q x ≡ c →
        among (if c then x ∷ filter q xs else filter q xs) e ≡ false
    go rest s false is no_choice = rest
    go rest true true is on = absurd (let bad : true ≡ false = sym on ∙ ap q (same_end-eq x e is) ∙ off in cc)
    go rest false true is on = or-second (same_end x e) (among (filter q xs) e) is ∙ rest

second-of : (a b c : Bool) → b ≡ true → (a || (b || c)) ≡ true
second-of true b c h = refl
second-of false true c h = refl
second-of false false c h = absurd (cc)

third-of : (a b c : Bool) → c ≡ true → (a || (b || c)) ≡ true
third-of true b c h = refl
third-of false true c h = refl
third-of false false c h = h

-- a side of the first of some links
at_first : (k n : ℕ) (link : ℕ) (s : Side) → link ≡ k → among (sides_from k (suc n)) (record { link = link; side = s }) ≡ true
at_first k n link In is =
    or-first (same_end (in_side k) (record { link = link; side = In })) _
    (subst (λ l. same_end (in_side k) (record { link = l; side = In }) ≡ true) (sym is) (same_end-refl (in_side k)))
at_first k n link Out is =
    second-of (same_end (in_side k) (record { link = link; side = Out })) (same_end (out_side k) (record { link = link; side = Out })) _
    (subst (λ l. same_end (out_side k) (record { link = l; side = Out }) ≡ true) (sym is) (same_end-refl (out_side k)))

-- a side of one of some links is among their sides
in-sides : (k n : ℕ) (e : SideId) → k ≤ e.link → e.link < k + n → among (sides_from k n) e ≡ true
in-sides k zero e from to = absurd (omega (arith, from, to))
in-sides k (suc n) e from to = elim (cases_lt k e.link) [
  | inl later ↦
      third-of (same_end (in_side k) e) (same_end (out_side k) e) (among (sides_from (k + 1) n) e)
      (in-sides (k + 1) n e (omega (arith, later)) (omega (arith, to)))
  | inr here ↦ at_first k n e.link e.side (omega (arith, from, here))
]

-- Slots

-- the sides with a hook are those whose slots are taken
pub taken-sides : {H : Type 0} (hooks : List (Option H)) (e : SideId) → among (seated_sides hooks) e ≡ is_some (hook_at hooks (number e))
taken-sides hooks e = go (nat_lt (number e) (length hooks)) (is_some (hook_at hooks (number e))) refl refl
  where
    go : (b c : Bool) → nat_lt (number e) (length hooks) ≡ b → is_some (hook_at hooks (number e)) ≡ c →
        among (seated_sides hooks) e ≡ is_some (hook_at hooks (number e))
    go true true below some =
        let lt : number e < length hooks = ltb-true (number e) (length hooks) below in
        chosen-in (λ x. nat_lt (number x) (length hooks) && is_some (hook_at hooks (number x))) (sides_from 0 (length hooks)) e
        ((λ i. below i && some i)) (in-sides 0 (length hooks) e (omega arith) (omega (arith, lt))) ∙ sym some
    go true false below none =
        chosen-out (λ x. nat_lt (number x) (length hooks) && is_some (hook_at hooks (number x))) (sides_from 0 (length hooks)) e
        (and-false (nat_lt (number e) (length hooks)) (is_some (hook_at hooks (number e))) none) ∙ sym none
    go false c past is =
        let far = get_or_past hooks (number e) None (ltb-false (number e) (length hooks) past) in
        chosen-out (λ x. nat_lt (number x) (length hooks) && is_some (hook_at hooks (number x))) (sides_from 0 (length hooks)) e
        (λ i. past i && is_some (hook_at hooks (number e))) ∙ sym (ap is_some far)

or-none : {H : Type 0} (o : Option H) → option_or o None ≡ o
or-none None = refl
or-none (Some x) = refl

-- Hooks of which none was called are seated, for a new drive.
pub fresh-seated : {H : Type 0} (settings : Settings) (given : RateGroups) (hooks gone : List (Option H)) → AreFresh hooks gone →
    AreSeated (new_drive settings given (seated_sides hooks)).state hooks gone
fresh-seated settings given hooks gone h =
    record {
      level = h.level;
      hooked = λ e. taken-sides hooks e ∙ sym (ap is_some (seat-is e));
      freed = λ e has empty. absurd (let bad : true ≡ false = sym has ∙ taken-sides hooks e ∙ empty in cc);
    }
  where
    seat-is : (e : SideId) → seat hooks gone (number e) ≡ hook_at hooks (number e)
    seat-is e = ap (λ o. option_or (hook_at hooks (number e)) o) (h.none (number e)) ∙ or-none (hook_at hooks (number e))

-- By slots that are taken the sides are the same.
taken-at : {H : Type 0} (hooks : List (Option H)) (n : ℕ) → get_or (slots_taken hooks) n false ≡ is_some (hook_at hooks n)
taken-at [] n = refl
taken-at (x ∷ hooks) zero = refl
taken-at (x ∷ hooks) (suc n) = taken-at hooks n

pub taken-hooks : {H : Type 0} (hooks : List (Option H)) → hooks_of (slots_taken hooks) ≡ seated_sides hooks
taken-hooks hooks =
    let many = length-map hooks is_some in
    λ i. sides_where (λ e. taken-at hooks (number e) i) (many i)
