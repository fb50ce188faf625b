-- The part of a list between two places, as the later place moves on.
use Rattle.std.proofs.Common.{◌≡◌, ℕ, ◌+◌, ◌-◌, ◌≤◌, min, List, ◌++◌, length, take, drop, sym, ap, ◌∙◌, arith, length-drop}
use Rattle.std.proofs.lemmas.List.{take-append-drop, take-take, drop-take, drop-append-le, take_min, drop_min, drop-drop, length-take-le}

take-add : {A : Type 0} (a m : ℕ) (xs : List A) → take (a + m) xs ≡ take a xs ++ take m (drop a xs)
take-add a m xs =
    sym (take-append-drop a (take (a + m) xs)) ∙ ap (λ t. t ++ drop a (take (a + m) xs)) (take-take a (a + m) xs (omega arith)) ∙
    ap (λ t. take a xs ++ t) (drop-take a m xs)

min_left : {A : Type 0} (xs : List A) (to n m : ℕ) → m ≡ min n (length xs - to) → min n (length (drop to xs)) ≡ m
min_left xs to n m e = omega (arith, length-drop to xs)

-- the part up to a place that moves on by n, or to the end of the list
pub part_grows : {A : Type 0} (xs : List A) (from to n m : ℕ) → from ≤ to → to ≤ length xs → m ≡ min n (length xs - to) → drop from
    (take (to + m) xs) ≡ drop from (take to xs) ++ take n (drop to xs)
part_grows xs from to n m low high e =
    let long : from ≤ length (take to xs) = omega (arith, length-take-le to xs high) in
    let same : take m (drop to xs) ≡ take n (drop to xs) = ap (λ k. take k (drop to xs)) (sym (min_left xs to n m e)) ∙ take_min n
    (drop to xs) in
    ap (drop from) (take-add to m xs) ∙ drop-append-le from (take to xs) (take m (drop to xs)) long ∙ ap
    (λ t. drop from (take to xs) ++ t) same

-- the rest behind that place
pub rest_shrinks : {A : Type 0} (xs : List A) (to n m : ℕ) → m ≡ min n (length xs - to) → drop (to + m) xs ≡ drop n (drop to xs)
rest_shrinks xs to n m e =
    sym (drop-drop m to xs) ∙ ap (λ k. drop k (drop to xs)) (sym (min_left xs to n m e)) ∙ drop_min n (drop to xs)
