-- What a contract sees of a set: its length, and which numbers are members.
use Rattle.std.specs.Prelude.{◌≡◌, ℕ, ◌≤◌, Bool, false}

-- the numbers below `len` can be members, and none from there on is one
pub record NumberSetValue : Type 0 where
  pub len : ℕ
  pub has : ℕ → Bool
  pub absent : (n : ℕ) → len ≤ n → has n ≡ false
