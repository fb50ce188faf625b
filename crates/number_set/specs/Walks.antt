-- A walk from number to number, upwards.
use Rattle.std.specs.Prelude.{◌≡◌, ℕ, ◌+◌, ◌*◌, ◌^◌, ◌<◌, ◌≤◌, Bool, false, Option, Some, None}
use Rattle.number_set.specs.Next.{in_either}
use Rattle.number_set.specs.Numbers.{NumberSetValue}
use Rattle.number_set.specs.Words.{is_set}

-- the numbers that are in both of the first two sets or in both of the last two, and the number from which the walk goes on
pub record WalkValue : Type 0 where
  pub first : NumberSetValue
  pub second : NumberSetValue
  pub third : NumberSetValue
  pub fourth : NumberSetValue
  pub from : ℕ

-- the walk comes to this number
abbrev pub walked : WalkValue → ℕ → Bool
walked v = in_either v.first.has v.second.has v.third.has v.fourth.has

-- it came to this number and goes on behind it, or came to none
abbrev pub walked_to : Option ℕ → WalkValue → WalkValue
walked_to (Some n) v = record v { from = n + 1 }
walked_to None v = v

-- the word is the first from a place on with a number that passes the test, and stands at `at`
pub record IsNextWord (p : ℕ → Bool) (from at word : ℕ) : Type 0 where
  pub reached : from ≤ at
  pub small : at < 2 ^ 58
  pub some : 0 < word
  pub bits : (k : ℕ) → k < 64 → is_set word k ≡ p (64 * at + k)
  pub none_before : (n : ℕ) → 64 * from ≤ n → n < 64 * at → p n ≡ false

-- the word is the last before a place with a number that passes the test, and stands at `at`
pub record IsPreviousWord (p : ℕ → Bool) (before at word : ℕ) : Type 0 where
  pub below : at < before
  pub small : at < 2 ^ 58
  pub some : 0 < word
  pub bits : (k : ℕ) → k < 64 → is_set word k ≡ p (64 * at + k)
  pub none_after : (n : ℕ) → 64 * at + 64 ≤ n → n < 64 * before → p n ≡ false
