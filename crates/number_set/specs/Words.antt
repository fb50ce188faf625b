-- How a set is kept: as words of 64 bits, the number n at the bit n % 64 of the word n / 64.
use Rattle.std.specs.Prelude.{◌≡◌, ℕ, ◌+◌, ◌*◌, ◌/◌, ◌%◌, ◌^◌, ◌<◌, ◌≤◌, ◌==◌, nat_lt, Bool, false, ◌&&◌, List, length, slice_index}
use Rattle.std.specs.Int.{bit_at}
use Rattle.std.proofs.lemmas.Bool.{and_left, le-ltb}
use Rattle.number_set.specs.Numbers.{NumberSetValue}

-- the bit of a word is set
abbrev pub is_set : ℕ → ℕ → Bool
is_set word place = bit_at word place == 1

-- the number is in the words
unfoldable pub has_number : List ℕ → ℕ → Bool
has_number words n = is_set (slice_index words (n / 64)) (n % 64)

-- the set that the words keep: the numbers in them below the length
abbrev pub value_of : List ℕ → ℕ → NumberSetValue
value_of words len = record {
  len = len;
  has = λ n. nat_lt n len && has_number words n;
  absent = λ n past. and_left _ _ (le-ltb n len past);
}

-- there is a bit for each number below the length and no word more, the length fits 64 bits, and no number from the length on is
-- in the words
pub record IsKept (words : List ℕ) (len : ℕ) : Type 0 where
  pub enough : len ≤ 64 * length words
  pub tight : 64 * length words < len + 64
  pub fits : len < 2 ^ 64
  pub none_past : (n : ℕ) → len ≤ n → has_number words n ≡ false

-- the places of the words that aren't 0, as a set in words of its own, which has room for the place of each word
pub record AreTops (words tops : List ℕ) : Type 0 where
  pub enough : length words ≤ 64 * length tops
  pub few : 64 * length tops ≤ length words + 64
  pub places : (k : ℕ) → has_number tops k ≡ nat_lt 0 (slice_index words k)
