-- A part of a list behind another.
use Rattle.std.proofs.Common.{◌≡◌, ◌≤◌, ◌+◌, ℕ, List, ◌++◌, take, drop, sym, arith}
use Rattle.std.proofs.lemmas.List.{take-append-drop, take-take, drop-take}

-- the next part follows the first
pub take_next : {A : Type 0} (xs : List A) (i j : ℕ) → take (i + j) xs ≡ take i xs ++ take j (drop i xs)
take_next xs i j =
    let within : i ≤ i + j = omega arith in
    rw (← take-take i (i + j) xs within, ← drop-take i j xs) (sym (take-append-drop i (take (i + j) xs)))
