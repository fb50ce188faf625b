-- Which sides have a hook.
use Rattle.std.proofs.Common.{◌≡◌, ℕ, zero, suc, ◌+◌, ◌*◌, ◌<◌, ◌≤◌, Bool, true, false, ◌&&◌, ◌||◌, cond, List, [], ◌∷◌, length}
use Rattle.std.proofs.Common.{⊎_elim, refl, sym, ◌∙◌, ap, arith}
use Rattle.std.specs.Prelude.{◌==◌, nat_lt, filter, slice_index_or}
use Rattle.std.specs.List.{list_any}
use Rattle.std.proofs.lemmas.Bool.{cases_eq, eq-eqb, ltb-true, ltb-false, cases_lt}
use Rattle.std.proofs.lemmas.List.{get_or_past}
use Rattle.ev_types.specs.declared.side.Side.{Side}
use Rattle.ev_types.specs.declared.side.Side.TheVariants.{In, Out}
use Rattle.ev_types.specs.declared.side.SideId.{SideId}
use Rattle.ev_types.specs.Sides.{half, number, same_side, same_end}
use Rattle.relay_model.specs.Plain.{sides_from, sides_where}
use Rattle.relay_model.proofs.EndLemmas.{same_end-eq}
use Rattle.relay_waits.specs.WaitsValue.{hooks_of}
use Rattle.relay_waits.proofs.NumberLemmas.{and-false}

-- a side is among those that pass a test where it is among all and passes it
any-filter : (e : SideId) (q : SideId → Bool) (xs : List SideId) →
    list_any (λ x. same_end x e) (filter q xs) ≡ (list_any (λ x. same_end x e) xs && q e)
any-filter e q [] = refl
any-filter e q (x ∷ xs) = split (any-filter e q xs) (q x) refl
  where
    there : Bool
    there = list_any (λ x. same_end x e) xs

    split : list_any (λ x. same_end x e) (filter q xs) ≡ (list_any (λ x. same_end x e) xs && q e) → (b : Bool) → q x ≡ b →
        list_any (λ x. same_end x e) (cond b (x ∷ filter q xs) (filter q xs)) ≡
        ((same_end x e || list_any (λ x. same_end x e) xs) && q e)
    split rest true h = stays (same_end x e) (λ s. sym h ∙ ap q (same_end-eq x e s))
      where
        stays : (s : Bool) → (s ≡ true → true ≡ q e) →
            (s || list_any (λ x. same_end x e) (filter q xs)) ≡ ((s || list_any (λ x. same_end x e) xs) && q e)
        stays true k = k refl
        stays false k = rest
    split rest false h = goes (same_end x e) (λ s. sym h ∙ ap q (same_end-eq x e s))
      where
        goes : (s : Bool) → (s ≡ true → false ≡ q e) →
            list_any (λ x. same_end x e) (filter q xs) ≡ ((s || list_any (λ x. same_end x e) xs) && q e)
        goes true k =
            rest ∙ ap (λ z. list_any (λ x. same_end x e) xs && z) (sym (k refl))
            ∙ and-false (list_any (λ x. same_end x e) xs) ∙ k refl
        goes false k = rest

-- a side of one of these links is among their sides
among : (k n : ℕ) (e : SideId) → k ≤ e.link → e.link < k + n → list_any (λ x. same_end x e) (sides_from k n) ≡ true
among k zero e low high = absurd (omega (arith, low, high))
among k (suc n) e low high = ⊎_elim
    (λ same. here (k == e.link) e.side (list_any (λ x. same_end x e) (sides_from (k + 1) n)) (eq-eqb k e.link same))
    (λ apart. later (k == e.link && same_side In e.side) (k == e.link && same_side Out e.side)
    (among (k + 1) n e (omega (arith, low, apart)) (omega (arith, high))))
    (cases_eq k e.link)
  where
    here : (b : Bool) (s : Side) (r : Bool) → b ≡ true → ((b && same_side In s) || ((b && same_side Out s) || r)) ≡ true
    here true In r h = refl
    here true Out r h = refl
    here false s r h = absurd (cc)

    later : (a b : Bool) → list_any (λ x. same_end x e) (sides_from (k + 1) n) ≡ true →
        (a || (b || list_any (λ x. same_end x e) (sides_from (k + 1) n))) ≡ true
    later true b rest = refl
    later false true rest = refl
    later false false rest = rest

within : (s : Side) (l n : ℕ) → 2 * l + half s < n → l < 0 + n
within In l n h = omega (arith, h)
within Out l n h = omega (arith, h)

-- A side is among those of the first so many for which something holds, where it is one of the first so many and that holds.
pub among-sides_where : (p : SideId → Bool) (n : ℕ) (e : SideId) →
    list_any (λ x. same_end x e) (sides_where p n) ≡ (nat_lt (number e) n && p e)
among-sides_where p n e =
    any-filter e (λ x. nat_lt (number x) n && p x) (sides_from 0 n)
    ∙ absorbed (list_any (λ x. same_end x e) (sides_from 0 n)) (nat_lt (number e) n) (p e)
    (λ h. among 0 n e (omega arith) (within e.side e.link n (ltb-true (number e) n h)))
  where
    absorbed : (a c d : Bool) → (c ≡ true → a ≡ true) → (a && (c && d)) ≡ (c && d)
    absorbed a true d h = ap (λ z. z && d) (h refl)
    absorbed a false d h = and-false a

-- a side has a hook where it stands so by its number
pub hook-by_number : (hs : List Bool) (e : SideId) → list_any (λ x. same_end x e) (hooks_of hs) ≡ slice_index_or hs (number e) false
hook-by_number hs e = among-sides_where (λ e. slice_index_or hs (number e) false) (length hs) e ∙ split (nat_lt (number e) (length hs)) refl
  where
    split : (b : Bool) → nat_lt (number e) (length hs) ≡ b → (b && slice_index_or hs (number e) false) ≡ slice_index_or hs (number e) false
    split true h = refl
    split false h = sym (get_or_past hs (number e) false (past h))
      where
        past : nat_lt (number e) (length hs) ≡ false → length hs ≤ number e
        past h = ltb-false (number e) (length hs) h

-- a hook stands within the list
pub hook-within : (hs : List Bool) (n : ℕ) → slice_index_or hs n false ≡ true → n < length hs
hook-within hs n h = ⊎_elim (λ lt. lt) (λ past. absurd (let bad = sym (get_or_past hs n false past) ∙ h in cc)) (cases_lt n (length hs))
