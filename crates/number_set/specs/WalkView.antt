-- How a walk is kept.
use Rattle.std.specs.Prelude.{◌≡◌, ℕ, ◌+◌, ◌*◌, ◌^◌, ◌<◌, ◌≤◌, Bool, true, false, ◌&&◌, nat_le, Option, Some, None}
use Rattle.number_set.specs.Walks.{WalkValue, walked}
use Rattle.number_set.specs.Words.{is_set}
use Rattle.number_set.specs.declared.walk.Walk.TheInside.{Inside}

abbrev pub walk_of : Inside → WalkValue
walk_of a = record { first = a.first.now; second = a.second.now; third = a.third.now; fourth = a.fourth.now; from = a.from }

-- Of the numbers that pass the test, `rest` has those from `from` on in the word at `at`, and none is passed over before it.
pub record IsAt (p : ℕ → Bool) (from at rest : ℕ) : Type 0 where
  pub small : at < 2 ^ 58
  pub reached : from ≤ 64 * at + 64
  pub bits : (k : ℕ) → k < 64 → is_set rest k ≡ (nat_le from (64 * at + k) && p (64 * at + k))
  pub none_before : (n : ℕ) → from ≤ n → n < 64 * at → p n ≡ false
  pub fits : (n : ℕ) → p n ≡ true → n + 1 < 2 ^ 64

-- this place and what is left of its word, where the walk goes on with a number of it, or None where it comes to none more
abbrev pub IsLeft : (ℕ → Bool) → ℕ → Option (ℕ × ℕ) → Type 0
IsLeft p from (Some found) = IsAt p from found.0 found.1 × (0 < found.1)
IsLeft p from None = (n : ℕ) → from ≤ n → p n ≡ false

abbrev pub IsWalk : Inside → Type 0
IsWalk a = IsAt (walked (walk_of a)) a.from a.at a.rest
