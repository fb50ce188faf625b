-- Numbers in a row, in the order of the values that they have.
use Rattle.std.specs.Prelude.{◌≡◌, ◌≢◌, ℕ, ◌==◌, if◌then◌else◌, List, [], ◌∷◌, Option, Some, None}
use Rattle.std.specs.List.{slice_index_or}

-- the value at a place of a list, where there is one
abbrev pub at : {V : Type 0} → List (Option V) → ℕ → Option V
at values k = slice_index_or values k None

-- the values without that of one number
abbrev pub but : {V : Type 0} → ℕ → (ℕ → Option V) → ℕ → Option V
but k f j = if j == k then None else f j

-- the values with this one for a number
abbrev pub with : {V : Type 0} → ℕ → V → (ℕ → Option V) → ℕ → Option V
with k v f j = if j == k then Some v else f j

-- the number has a value, and it comes before all others
pub record IsLeading {V : Type 0} (before : V → V → Type 0) (k : ℕ) (f : ℕ → Option V) : Type 0 where
  pub value : V
  pub has : f k ≡ Some value
  pub leads : (j : ℕ) (w : V) → j ≢ k → f j ≡ Some w → before value w

-- the list has each number that has a value, once, and the values come in its order
abbrev pub Rises : {V : Type 0} → (V → V → Type 0) → List ℕ → (ℕ → Option V) → Type 0
Rises before [] f = (k : ℕ) → f k ≡ None
Rises before (k ∷ ks) f = IsLeading before k f × Rises before ks (but k f)
