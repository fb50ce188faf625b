-- The nearest number that passes a test, upwards and downwards.
use Rattle.std.specs.Prelude.{◌≡◌, ℕ, ◌<◌, ◌≤◌, Bool, true, false, ◌&&◌, ◌||◌, Option, MatchOption}

-- n passes the test, and is the least such number from `from` on
pub record IsLeast (p : ℕ → Bool) (from n : ℕ) : Type 0 where
  pub reached : from ≤ n
  pub passes : p n ≡ true
  pub none_before : (i : ℕ) → from ≤ i → i < n → p i ≡ false

-- n passes the test, and is the greatest such number below `before`
pub record IsGreatest (p : ℕ → Bool) (before n : ℕ) : Type 0 where
  pub below : n < before
  pub passes : p n ≡ true
  pub none_after : (i : ℕ) → n < i → i < before → p i ≡ false

-- the least number from `from` on that passes the test, or None where none passes it
abbrev pub IsNext : (ℕ → Bool) → ℕ → Option ℕ → Type 0
IsNext p from result = MatchOption result ((i : ℕ) → from ≤ i → p i ≡ false) (λ n. IsLeast p from n)

-- the greatest number below `before` that passes the test, or None where none passes it
abbrev pub IsPrevious : (ℕ → Bool) → ℕ → Option ℕ → Type 0
IsPrevious p before result = MatchOption result ((i : ℕ) → i < before → p i ≡ false) (λ n. IsGreatest p before n)

-- the number passes the first two tests or the last two
abbrev pub in_either : (ℕ → Bool) → (ℕ → Bool) → (ℕ → Bool) → (ℕ → Bool) → ℕ → Bool
in_either first second third fourth n = (first n && second n) || (third n && fourth n)
