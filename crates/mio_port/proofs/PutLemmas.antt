-- What is told of the ends by their numbers, where one end was put into its place, and where a place was added.
use Rattle.std.proofs.Common.{◌≡◌, ◌≢◌, ◌∙◌, ℕ, zero, suc, ◌<◌, ◌==◌, List, [], ◌∷◌, ◌++◌, Bool, true, false, ◌||◌, if◌then◌else◌}
use Rattle.std.proofs.Common.{Option, None, Some, length, get_or, set, refl, sym, ap, subst, inl, inr, eq-eqb}
use Rattle.std.proofs.lemmas.Bool.{both_ways, cases_eq, ne_eqb, or_parts}
use Rattle.std.proofs.lemmas.List.{get_or-set_other, get_or-set_same, length-set}
use Rattle.mio_port.specs.declared.end.End.{End}
use Rattle.mio_port.specs.EndPlaces.{is_ending, is_there}

pub put-one : (test : Option End → Bool) (ends new : List (Option End)) (at : ℕ) (x : Option End) (a b : ℕ → Bool) → new ≡ set ends at x
    → ((n : ℕ) → a n ≡ test (get_or ends n None)) → ((n : ℕ) → b n ≡ (if n == at then test (get_or new at None) else a n))
    → (n : ℕ) → b n ≡ test (get_or (set ends at x) n None)
put-one test ends new at x a b is before kept n = elim (cases_eq n at) as (λ _. b n ≡ test (get_or (set ends at x) n None)) [
  | inl same ↦ kept n
      ∙ ap (λ c. if c then test (get_or new at None) else a n) (eq-eqb n at same)
      ∙ (λ i. test (get_or (is i) (sym same i) None))
  | inr differ ↦ kept n
      ∙ ap (λ c. if c then test (get_or new at None) else a n) (ne_eqb n at differ)
      ∙ before n
      ∙ ap test (sym (get_or-set_other ends at n x None differ))
]

not_there : (place : Option End) → is_there place ≡ false → is_ending place ≡ false
not_there None is = refl
not_there (Some e) is = absurd (both_ways true is refl)

-- an end that isn't pending, where none stood
pub put-still : (ends : List (Option End)) (at : ℕ) (x : Option End) (pending : ℕ → Bool) → at < length ends
    → ((n : ℕ) → is_ending (get_or ends n None) ≡ pending n) → is_there (get_or ends at None) ≡ false → is_ending x ≡ false
    → (n : ℕ) → is_ending (get_or (set ends at x) n None) ≡ pending n
put-still ends at x pending within before empty still n =
    elim (cases_eq n at) as (λ _. is_ending (get_or (set ends at x) n None) ≡ pending n) [
      | inl same ↦ ap (λ k. is_ending (get_or (set ends at x) k None)) same
          ∙ ap is_ending (get_or-set_same ends at x None within) ∙ still
          ∙ sym (not_there (get_or ends at None) empty) ∙ before at ∙ ap pending (sym same)
      | inr differ ↦ ap is_ending (get_or-set_other ends at n x None differ) ∙ before n
    ]

-- both ends of a link, of which neither stood
pub put-both : (ends : List (Option End)) (near far : ℕ) (x y : End) (pending : ℕ → Bool) → far ≢ near
    → near < length ends → far < length ends → ((n : ℕ) → is_ending (get_or ends n None) ≡ pending n)
    → (is_there (get_or ends near None) || is_there (get_or ends far None)) ≡ false → x.ending ≡ false → y.ending ≡ false
    → (n : ℕ) → is_ending (get_or (set (set ends near (Some x)) far (Some y)) n None) ≡ pending n
put-both ends near far x y pending differ within also before none x_still y_still =
    let empty = or_parts (is_there (get_or ends near None)) (is_there (get_or ends far None)) none in
    let one = put-still ends near (Some x) pending within before empty.0 x_still in
    let room : far < length (set ends near (Some x)) = subst (λ k. far < k) (sym (length-set ends near (Some x))) also in
    let empty_far = ap is_there (get_or-set_other ends near far (Some x) None differ) ∙ empty.1 in
    put-still (set ends near (Some x)) far (Some y) pending room one empty_far y_still

-- an absent place behind the others tells nothing
pub get_or-with_absent : (ends : List (Option End)) (n : ℕ) → get_or (ends ++ None ∷ []) n None ≡ get_or ends n None
get_or-with_absent [] zero = refl
get_or-with_absent [] (suc n) = refl
get_or-with_absent (place ∷ ends) zero = refl
get_or-with_absent (place ∷ ends) (suc n) = get_or-with_absent ends n
