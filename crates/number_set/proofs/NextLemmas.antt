-- Walks from word to word, for the nearest number that passes a test.
use Rattle.std.proofs.Common.{◌≡◌, inl, inr, ◌∙◌, sym, ap, ap₂, refl, ℕ, ◌+◌, ◌-◌, ◌*◌, ◌<◌, ◌≤◌, Bool, false, ◌&&◌, ◌||◌, List, get_or}
use Rattle.std.proofs.Common.{bit_and, bit_or, Option, Some, None, arith}
use Rattle.std.proofs.lemmas.Bool.{cases_lt}
use Rattle.number_set.specs.Next.{in_either, IsLeast, IsGreatest, IsNext, IsPrevious}
use Rattle.number_set.specs.Words.{is_set, has_number}
use Rattle.number_set.proofs.BitLemmas.{is_set_and, is_set_or}
use Rattle.number_set.proofs.WordLemmas.{has_number_at}

-- the nearest number for a test is that for another test with the same answers
pub IsNext-same : (p q : ℕ → Bool) (from : ℕ) (result : Option ℕ) → ((n : ℕ) → p n ≡ q n) → IsNext p from result → IsNext q from result
IsNext-same p q from None same none = λ i reached. sym (same i) ∙ none i reached
IsNext-same p q from (Some n) same least = record {
  reached = least.reached;
  passes = sym (same n) ∙ least.passes;
  none_before = λ i reached below. sym (same i) ∙ least.none_before i reached below;
}

pub IsPrevious-same : (p q : ℕ → Bool) (before : ℕ) (result : Option ℕ) → ((n : ℕ) → p n ≡ q n) → IsPrevious p before result →
    IsPrevious q before result
IsPrevious-same p q before None same none = λ i below. sym (same i) ∙ none i below
IsPrevious-same p q before (Some n) same greatest = record {
  below = greatest.below;
  passes = sym (same n) ∙ greatest.passes;
  none_after = λ i after below. sym (same i) ∙ greatest.none_after i after below;
}

-- the bits of one word of four sets are the numbers that are in the first two or in the last two
pub either-bits : (first second third fourth : List ℕ) (at a b c d : ℕ) → a ≡ get_or first at 0 → b ≡ get_or second at 0 → c ≡
    get_or third at 0 → d ≡ get_or fourth at 0 → (k : ℕ) → k < 64 → is_set (bit_or (bit_and a b) (bit_and c d)) k ≡ in_either
    (has_number first) (has_number second) (has_number third) (has_number fourth) (64 * at + k)
either-bits first second third fourth at a b c d a_is b_is c_is d_is k within =
    let n = 64 * at + k in
    let bit = λ (words : List ℕ) (w : ℕ) (is : w ≡ get_or words at 0).
    ap (λ v. is_set v k) is ∙ sym (has_number_at words n at k refl within) in
    is_set_or _ _ k ∙
    ap₂ (λ x y. x || y) (is_set_and a b k ∙ ap₂ (λ x y. x && y) (bit first a a_is) (bit second b b_is))
    (is_set_and c d k ∙ ap₂ (λ x y. x && y) (bit third c c_is) (bit fourth d d_is))

-- the bits of one word are its numbers
pub own-bits : (words : List ℕ) (at word : ℕ) → word ≡ get_or words at 0 → (k : ℕ) → k < 64
    → is_set word k ≡ has_number words (64 * at + k)
own-bits words at word is k within =
    ap (λ v. is_set v k) is ∙ sym (has_number_at words (64 * at + k) at k refl within)

-- no number from the low one on and below the high one passes the test
abbrev pub NoneBetween : (ℕ → Bool) → ℕ → ℕ → Type 0
NoneBetween p low high = (i : ℕ) → low ≤ i → i < high → p i ≡ false

module _ (p : ℕ → Bool) (word at : ℕ) (bits : (k : ℕ) → k < 64 → is_set word k ≡ p (64 * at + k)) where
  -- the answer at a number of the word
  bit_of : (i k : ℕ) → 64 * at + k ≡ i → k < 64 → p i ≡ is_set word k
  bit_of i k is within = ap p (sym is) ∙ sym (bits k within)

  -- what does not pass below a place of the word, and no bit from there up to a higher one, is all that comes before
  pub none_up : (from place high : ℕ) → NoneBetween p from (64 * at + place) → NoneBetween (is_set word) place high → high ≤ 64 →
      NoneBetween p from (64 * at + high)
  none_up from place high so_far none small i reached below =
      let k = i - 64 * at in
      elim (cases_lt i (64 * at + place)) [
        | inl before ↦ so_far i reached before
        | inr after ↦ bit_of i k (omega arith) (omega arith) ∙ none k (omega arith) (omega arith)
      ]

  -- what does not pass from a place of the word on, and no bit below it down to a lower one, is all that comes after
  pub none_down : (before place low : ℕ) → NoneBetween p (64 * at + place) before → NoneBetween (is_set word) low place → place ≤ 64 →
      NoneBetween p (64 * at + low) before
  none_down before place low so_far none small i reached below =
      let k = i - 64 * at in
      elim (cases_lt i (64 * at + place)) [
        | inl inside ↦ bit_of i k (omega arith) (omega arith) ∙ none k (omega arith) (omega arith)
        | inr behind ↦ so_far i behind below
      ]

  -- the least number, where none below a place of the word passes, is that of the least bit from there on
  pub least_in_word : (from place bit : ℕ) → from ≤ 64 * at + place → NoneBetween p from (64 * at + place) → bit < 64
      → IsLeast (is_set word) place bit → IsLeast p from (64 * at + bit)
  least_in_word from place bit begun so_far within least = record {
    reached = omega arith;
    passes = sym (bits bit within) ∙ least.passes;
    none_before = none_up from place bit so_far least.none_before (omega arith);
  }

  -- the greatest number, where none from a place of the word on passes, is that of the greatest bit below it
  pub greatest_in_word : (before place bit : ℕ) → 64 * at + place ≤ before → NoneBetween p (64 * at + place) before → place ≤ 64
      → IsGreatest (is_set word) place bit → IsGreatest p before (64 * at + bit)
  greatest_in_word before place bit begun so_far small greatest =
      let below = greatest.below in
      let none = none_down before place (bit + 1) so_far (λ k after inside. greatest.none_after k (omega arith) inside) small in
      record {
        below = omega arith;
        passes = sym (bits bit (omega arith)) ∙ greatest.passes;
        none_after = λ i after inside. none i (omega arith) inside;
      }
