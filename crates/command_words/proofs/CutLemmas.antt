-- Whether a text has what it is cut at.
use Rattle.std.proofs.Common.{◌≡◌, ◌<◌, ◌+◌, ℕ, suc, Bool, not, cond, true, false, List, [], ◌∷◌, ◌||◌, length, refl, arith, zero, get_or}
use Rattle.std.specs.List.{list_any, position_or_len}

-- an element that passes stands in front of the end
pub list_any-found : {X : Type 0} (p : X → Bool) (xs : List X) → position_or_len p xs < length xs → list_any p xs ≡ true
list_any-found p [] lt = absurd (omega arith)
list_any-found p (x ∷ xs) lt = go (p x) (list_any-found p xs) lt
  where
    go : (b : Bool) → (position_or_len p xs < length xs → list_any p xs ≡ true)
        → cond (not b) (1 + position_or_len p xs) 0 < suc (length xs) → (b || list_any p xs) ≡ true
    go true more h = refl
    go false more h = more (omega (arith, h))

-- no element passes where the search ran to the end
pub list_any-none : {X : Type 0} (p : X → Bool) (xs : List X) → position_or_len p xs ≡ length xs → list_any p xs ≡ false
list_any-none p [] e = refl
list_any-none p (x ∷ xs) e = go (p x) (list_any-none p xs) e
  where
    go : (b : Bool) → (position_or_len p xs ≡ length xs → list_any p xs ≡ false)
        → cond (not b) (1 + position_or_len p xs) 0 ≡ suc (length xs) → (b || list_any p xs) ≡ false
    go true more h = absurd (omega (arith, h))
    go false more h = more (omega (arith, h))

-- an element that passes is one of the list
pub list_any-at : {X : Type 0} (p : X → Bool) (xs : List X) (i : ℕ) (d : X) → i < length xs → p (get_or xs i d) ≡ true
    → list_any p xs ≡ true
list_any-at p [] i d lt e = absurd (omega arith)
list_any-at p (x ∷ xs) zero d lt e = rw e refl
list_any-at p (x ∷ xs) (suc i) d lt e = rw (list_any-at p xs i d (omega arith) e) (go (p x))
  where
    go : (b : Bool) → (b || true) ≡ true
    go true = refl
    go false = refl
