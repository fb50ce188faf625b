-- Lists with an element at their end, taken apart.
use Rattle.std.proofs.Common.{◌≡◌, ◌⊎◌, inl, inr, List, [], ◌∷◌, ◌++◌, drop, get_or, refl, sym, ◌∙◌, ap}
use Rattle.std.proofs.lemmas.List.{append-nil}

pub cons-head : {A : Type 0} (x y : A) (xs ys : List A) → x ∷ xs ≡ y ∷ ys → x ≡ y
cons-head x y xs ys h = ap (λ l. get_or l 0 x) h

pub cons-tail : {A : Type 0} (x y : A) (xs ys : List A) → x ∷ xs ≡ y ∷ ys → xs ≡ ys
cons-tail x y xs ys h = ap (λ l. drop 1 l) h

pub append-empty : {A : Type 0} (xs ys : List A) → xs ++ ys ≡ [] → ys ≡ []
append-empty [] ys h = h
append-empty (x ∷ xs) ys h = cc

-- Two lists in a row end with an element: either the second is empty, or it ends with it.
pub split-end : {A : Type 0} (xs ys zs : List A) (z : A) → xs ++ ys ≡ zs ++ z ∷ [] →
    ((ys ≡ []) × (xs ≡ zs ++ z ∷ [])) ⊎ ((rest : List A) × (ys ≡ rest ++ z ∷ []) × (zs ≡ xs ++ rest))
split-end [] ys zs z h = inr (zs, h, refl)
split-end (x ∷ xs) ys [] z h =
    let none = append-empty xs ys (cons-tail x z (xs ++ ys) [] h) in
    inl (none, sym (append-nil (x ∷ xs)) ∙ ap (λ l. (x ∷ xs) ++ l) (sym none) ∙ h)
split-end (x ∷ xs) ys (c ∷ zs) z h =
    let first = cons-head x c (xs ++ ys) (zs ++ z ∷ []) h in
    elim (split-end xs ys zs z (cons-tail x c (xs ++ ys) (zs ++ z ∷ []) h)) [
      | inl none ↦ inl (none.0, ap (λ l. x ∷ l) none.1 ∙ ap (λ y. y ∷ (zs ++ z ∷ [])) first)
      | inr some ↦ inr (some.0, some.1, ap (λ l. c ∷ l) some.2 ∙ ap (λ y. y ∷ (xs ++ some.0)) (sym first))
    ]

-- A list that ends with an element has another one somewhere: either that is the one at the end, or it stands before.
pub split-at_one : {A : Type 0} (zs xs ys : List A) (z y : A) → zs ++ z ∷ [] ≡ xs ++ y ∷ ys →
    ((ys ≡ []) × (xs ≡ zs) × (y ≡ z)) ⊎ ((rest : List A) × (ys ≡ rest ++ z ∷ []) × (zs ≡ xs ++ y ∷ rest))
split-at_one [] [] ys z y h = inl (sym (cons-tail z y [] ys h), refl, sym (cons-head z y [] ys h))
split-at_one (c ∷ zs) [] ys z y h = inr (zs, sym (cons-tail c y (zs ++ z ∷ []) ys h), ap (λ x. x ∷ zs) (cons-head c y (zs ++ z ∷ []) ys h))
split-at_one [] (x ∷ xs) ys z y h = let none = append-empty xs (y ∷ ys) (sym (cons-tail z x [] (xs ++ y ∷ ys) h)) in cc
split-at_one (c ∷ zs) (x ∷ xs) ys z y h =
    let first = cons-head c x (zs ++ z ∷ []) (xs ++ y ∷ ys) h in
    elim (split-at_one zs xs ys z y (cons-tail c x (zs ++ z ∷ []) (xs ++ y ∷ ys) h)) [
      | inl at_end ↦ inl (at_end.0, ap (λ l. x ∷ l) at_end.1 ∙ ap (λ a. a ∷ zs) (sym first), at_end.2)
      | inr earlier ↦ inr (earlier.0, earlier.1, ap (λ l. c ∷ l) earlier.2 ∙ ap (λ a. a ∷ (xs ++ y ∷ earlier.0)) first)
    ]
