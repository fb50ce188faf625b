-- Lists of which only the last items are kept.
use Rattle.std.proofs.Common.{◌≡◌, ◌∙◌, ℕ, ◌+◌, ◌-◌, ◌≤◌, List, ◌++◌, length, drop, sym, ap, arith, length-append, length-drop, drop-drop}
use Rattle.std.proofs.lemmas.List.{drop-append-le}
use Rattle.std.proofs.Math.Seq.{drop-append-add}
use Rattle.evrelay.specs.RingWants.{keep_last}

module _ {X : Type 0} where
  -- a list that is no longer is kept whole
  pub keep_last-whole : (n : ℕ) (xs : List X) → length xs ≤ n → keep_last n xs ≡ xs
  keep_last-whole n xs short = let none : length xs - n ≡ 0 = omega arith in ap (λ k. drop k xs) none

  -- more items come behind what was kept as behind the whole list
  pub keep_last-keep_last : (n : ℕ) (xs ys : List X) → keep_last n (keep_last n xs ++ ys) ≡ keep_last n (xs ++ ys)
  keep_last-keep_last n xs ys =
      let cut = length xs - n in
      let left = length-drop cut xs in
      let behind = length-append (drop cut xs) ys in
      let whole = length-append xs ys in
      let again = length (drop cut xs ++ ys) - n in
      let joined : drop cut xs ++ ys ≡ drop cut (xs ++ ys) = sym (drop-append-le cut xs ys (omega arith)) in
      let at : cut + again ≡ length (xs ++ ys) - n = omega (arith, left, behind, whole) in
      ap (drop again) joined ∙ drop-drop again cut (xs ++ ys) ∙ ap (λ k. drop k (xs ++ ys)) at

  -- of a list whose end is long enough that end alone counts
  pub keep_last-end : (n : ℕ) (xs ys : List X) → n ≤ length ys → keep_last n (xs ++ ys) ≡ keep_last n ys
  keep_last-end n xs ys long =
      let at : length (xs ++ ys) - n ≡ length xs + (length ys - n) = omega (arith, length-append xs ys) in
      ap (λ k. drop k (xs ++ ys)) at ∙ drop-append-add xs ys (length ys - n)
