-- The place of each timer in its slot, when timers go to other places, come in and go out.
use Rattle.std.proofs.Common.{◌≡◌, ◌≢◌, ◌∙◌, sym, ap, ℕ, ◌<◌, List, [], ◌∷◌, ◌++◌, length, get_or, arith, cond, is_some, Some, None}
use Rattle.std.proofs.Common.{inl, inr, ◌⊎◌}
use Rattle.std.specs.List.{swap}
use Rattle.std.proofs.lemmas.Bool.{cases_eq}
use Rattle.std.proofs.lemmas.List.{get_or_default, get_or_append_left, length-append}
use Rattle.std.proofs.Math.Seq.{get_or-append_seam}
use Rattle.std.proofs.lemmas.List.Edits.{swapped_from_swap, length-swap}
use Rattle.std.proofs.lemmas.List.Sums.{sum_by-set}
use Rattle.slab.specs.Slab.{Slab, get, slab_len, with_value, Updates}
use Rattle.slab.proofs.SlabLemmas.{ContainsKey-within, Updates-with_value}
use Rattle.min_timer.specs.Order.{SlotsHoldPlaces}
use Rattle.min_timer.specs.declared.timer.Timer.{Timer}

-- a slot in use that takes another value leaves as many in use
pub slab_len-with_value : (s : Slab ℕ) (key value old : ℕ) → get s key ≡ Some old → slab_len (with_value s key value) ≡ slab_len s
slab_len-with_value s key value old is =
    let within = ContainsKey-within s key (ap is_some is) in
    let one : cond (is_some (get s key)) 1 0 ≡ 1 = ap {B = ℕ} (λ o. cond (is_some o) 1 0) is in
    let sums = sum_by-set (λ o. cond (is_some o) 1 0) s.slots key (Some value) None within in
    omega (arith, sums, one)

-- what a slot holds that took another value, and what the others hold
get-with_value : (s : Slab ℕ) (key value old : ℕ) → get s key ≡ Some old → Updates s (with_value s key value) key (Some value)
get-with_value s key value old is = Updates-with_value s key value (ap is_some is)

-- after two timers were exchanged and their slots hold their new places
module _ (xs ys : List Timer) (s : Slab ℕ) (a b : ℕ) (seated : SlotsHoldPlaces xs s) (wa : a < length xs) (wb : b < length xs)
    (is : ys ≡ swap xs a b) (d : Timer) where
  -- the slot of the timer at the first place, and of the one at the second
  abbrev pub sa : ℕ
  sa = (get_or ys a d).handle.slot

  abbrev pub sb : ℕ
  sb = (get_or ys b d).handle.slot

  abbrev pub once : Slab ℕ
  once = with_value s sa a

  first_slot : get s sa ≡ Some b
  first_slot = ap (λ t. get s t.handle.slot) (swapped_from_swap xs ys a b d wa wb is).0 ∙ seated b d wb

  second_slot : get s sb ≡ Some a
  second_slot = ap (λ t. get s t.handle.slot) (swapped_from_swap xs ys a b d wa wb is).1 ∙ seated a d wa

  -- what the second slot holds once the first was written
  second_now : (old : ℕ) × (get once sb ≡ Some old)
  second_now =
      elim (cases_eq sb sa) [
        | inl same ↦ (a, ap (get once) same ∙ (get-with_value s sa a b first_slot).changed)
        | inr differs ↦ (a, (get-with_value s sa a b first_slot).others sb differs ∙ second_slot)
      ]

  pub slab_len-exchanged : slab_len (with_value once sb b) ≡ slab_len s
  slab_len-exchanged = slab_len-with_value once sb b second_now.0 second_now.1 ∙ slab_len-with_value s sa a b first_slot

  pub seated-exchanged : (at : ℕ) (e : Timer) → at < length ys → get (with_value once sb b) (get_or ys at e).handle.slot ≡ Some at
  seated-exchanged at e within = go (cases_eq at b) (cases_eq at a)
    where
      last : Updates once (with_value once sb b) sb (Some b)
      last = get-with_value once sb b second_now.0 second_now.1

      first : Updates s once sa (Some a)
      first = get-with_value s sa a b first_slot

      inside : at < length xs
      inside = omega (arith, within, ap length is, length-swap xs a b)

      same_default : get_or ys at e ≡ get_or ys at d
      same_default = get_or_default ys at e d within

      go : (at ≡ b) ⊎ (at ≢ b) → (at ≡ a) ⊎ (at ≢ a) → get (with_value once sb b) (get_or ys at e).handle.slot ≡ Some at
      go (inl here) _ = rw (same_default, here) last.changed
      go (inr other) (inl here) =
          rw (same_default, here)
          (last.others sa (λ same. other (here ∙ (let two : Some a ≡ Some b = sym second_slot ∙ ap (get s) (sym same) ∙ first_slot in cc)))
          ∙ first.changed)
      go (inr other) (inr neither) =
          let still : get_or ys at d ≡ get_or xs at d = (swapped_from_swap xs ys a b d wa wb is).2 at neither other in
          let held : get s (get_or ys at d).handle.slot ≡ Some at = ap (λ t. get s t.handle.slot) still ∙ seated at d inside in
          rw same_default
          (last.others (get_or ys at d).handle.slot (λ same.
          neither (let two : Some at ≡ Some a = sym held ∙ ap (get s) same ∙ second_slot in cc))
          ∙ first.others (get_or ys at d).handle.slot (λ same.
          other (let two : Some at ≡ Some b = sym held ∙ ap (get s) same ∙ first_slot in cc))
          ∙ held)

-- once the last timer is out and its slot is free, the others are in theirs
pub seated-without_last : (zs : List Timer) (t : Timer) (s new : Slab ℕ) → SlotsHoldPlaces (zs ++ t ∷ []) s
    → Updates s new t.handle.slot None → SlotsHoldPlaces zs new
seated-without_last zs t s new seated updates = λ at d within.
    let there : get s (get_or zs at d).handle.slot ≡ Some at =
    ap (λ x. get s x.handle.slot) (sym (get_or_append_left zs (t ∷ []) d at within))
    ∙ seated at d (omega (arith, within, length-append zs (t ∷ []))) in
    let last : get s t.handle.slot ≡ Some (length zs) =
    ap (λ x. get s x.handle.slot) (sym (get_or-append_seam zs t [] d))
    ∙ seated (length zs) d (omega (arith, length-append zs (t ∷ []))) in
    updates.others (get_or zs at d).handle.slot (λ same.
    let one : Some at ≡ Some (length zs) = sym there ∙ ap (get s) same ∙ last in
    let place : at ≡ length zs = cc in
    omega (arith, within, place))
    ∙ there
