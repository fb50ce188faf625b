-- The last byte of a slice.
use Rattle.std.proofs.Common.{◌≡◌, ℕ, ◌-◌, List, [], ◌∷◌, length, Option, Some, refl, ◌∙◌, ap, arith}
use Rattle.std.specs.List.{last_or, slice_get}
use Rattle.std.specs.Option.{option_or}

last-behind : (o : Option ℕ) (x : ℕ) (xs : List ℕ) → option_or (slice_get (x ∷ xs) (length xs)) o ≡ last_or (Some x) xs
last-behind o x [] = refl
last-behind o x (y ∷ ys) = last-behind o y ys

pub last-at : (o : Option ℕ) (xs : List ℕ) → option_or (slice_get xs (length xs - 1)) o ≡ last_or o xs
last-at o [] = refl
last-at o (x ∷ xs) = ap (λ n. option_or (slice_get (x ∷ xs) n) o) (let e : length (x ∷ xs) - 1 ≡ length xs = omega arith in e)
    ∙ last-behind o x xs
