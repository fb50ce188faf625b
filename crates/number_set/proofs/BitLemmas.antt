-- The bits of one word: what a mask, a shift and a pair of words make of them, and where the nearest set bit is.
use Rattle.std.proofs.Common.{◌≡◌, inl, inr, ◌∙◌, sym, ap, refl, ℕ, suc, ◌+◌, ◌-◌, ◌*◌, ◌/◌, ◌%◌, ◌^◌, ◌<◌, ◌≤◌, min, max, Bool, true}
use Rattle.std.proofs.Common.{false, ◌&&◌, ◌||◌, ◌==◌, nat_lt, bit_and, bit_or, w64, arith}
use Rattle.std.specs.Int.{bit_at, trailing_zeros}
use Rattle.std.proofs.lemmas.Bool.{cases_lt, lt-ltb, le-ltb, ltb-true, and_parts, both_ways}
use Rattle.std.proofs.lemmas.Bool.Decides.{nat_tests}
use Rattle.std.proofs.lemmas.Nat.{shr-shr, shr_le, leading_top, le-div, div_below, pow_pos}
use Rattle.std.proofs.lemmas.Nat.Bits.{bit_at-lt, bit_at-zero, bit_at_and, bit_at_or, bit_at_ones, bit_at_ones_above, bit_at_above}
use Rattle.std.proofs.lemmas.Nat.Bits.{bit_at-trailing_zeros}
use Rattle.std.proofs.Math.Nat.{pow-suc}
use lib.Count.{count_leading_zeros}
use Rattle.number_set.specs.Next.{IsLeast, IsGreatest}
use Rattle.number_set.specs.Words.{is_set}

-- whether a bit is set, from its value
pub is_set_from : (word k b : ℕ) → bit_at word k ≡ b → is_set word k ≡ (b == 1)
is_set_from word k b e = ap (λ x. x == 1) e

-- the bits of the number before a power of 2 are those below it
pub is_set_below : (place k : ℕ) → is_set (2 ^ place - 1) k ≡ nat_lt k place
is_set_below place k =
    elim (cases_lt k place) [
      | inl within ↦ is_set_from _ k 1 (bit_at_ones place k within) ∙ sym (lt-ltb k place within)
      | inr past ↦ is_set_from _ k 0 (bit_at_ones_above place k past) ∙ sym (le-ltb k place past)
    ]

and_true : (b : Bool) → (b && true) ≡ b
and_true true = refl
and_true false = refl

min_of_bits : (x y : ℕ) → x < 2 → y < 2 → (min x y == 1) ≡ ((x == 1) && (y == 1))
min_of_bits x y p q = grind (arith, nat_tests)

max_of_bits : (x y : ℕ) → x < 2 → y < 2 → (max x y == 1) ≡ ((x == 1) || (y == 1))
max_of_bits x y p q = grind (arith, nat_tests)

-- a bit of both words is set where it is set in each
pub is_set_and : (a b k : ℕ) → is_set (bit_and a b) k ≡ (is_set a k && is_set b k)
is_set_and a b k = is_set_from _ k _ (bit_at_and a b k) ∙ min_of_bits _ _ (bit_at-lt a k) (bit_at-lt b k)

-- a bit of either word is set where it is set in one
pub is_set_or : (a b k : ℕ) → is_set (bit_or a b) k ≡ (is_set a k || is_set b k)
is_set_or a b k = is_set_from _ k _ (bit_at_or a b k) ∙ max_of_bits _ _ (bit_at-lt a k) (bit_at-lt b k)

-- a shift moves the bits down
pub bit_at_shr : (word place k i : ℕ) → place + k ≡ i → bit_at (word / 2 ^ place) k ≡ bit_at word i
bit_at_shr word place k i e = ap (λ n. n % 2) (shr-shr word place k) ∙ ap (bit_at word) e

-- where a shift leaves nothing, no bit is set from its place on
pub lowest_none : (word place : ℕ) → word / 2 ^ place ≡ 0 → (i : ℕ) → place ≤ i → is_set word i ≡ false
lowest_none word place none i past =
    let k = i - place in
    is_set_from word i 0 (sym (bit_at_shr word place k i (omega arith)) ∙ ap (λ n. bit_at n k) none ∙ bit_at-zero k)

-- the lowest bit of a shifted word stands at the least place from there on whose bit is set
pub lowest_some : (word place : ℕ) → 0 < word / 2 ^ place → word < 2 ^ 64 → IsLeast (is_set word) place
    (place + trailing_zeros w64 (word / 2 ^ place))
lowest_some word place some fits =
    let above = word / 2 ^ place in
    let zeros = trailing_zeros w64 above in
    let small : above < 2 ^ 64 = omega (arith, shr_le word place) in
    let first = bit_at-trailing_zeros w64 above some small in
    record {
      reached = omega arith;
      passes = is_set_from word (place + zeros) 1 (sym (bit_at_shr word place zeros (place + zeros) refl) ∙ first.1);
      none_before = λ i from below.
          is_set_from word i 0 (sym (bit_at_shr word place (i - place) i (omega arith)) ∙ first.2 (i - place) (omega arith));
    }

-- the lowest bit of a word stands at the least place whose bit is set
pub lowest_of : (word : ℕ) → 0 < word → word < 2 ^ 64 → IsLeast (is_set word) 0 (trailing_zeros w64 word)
lowest_of word some fits =
    let first = bit_at-trailing_zeros w64 word some fits in
    record {
      reached = omega arith;
      passes = is_set_from word _ 1 first.1;
      none_before = λ i from below. is_set_from word i 0 (first.2 i below);
    }

-- a bit that is set in a word stands below the width
pub set_within : (word k : ℕ) → word < 2 ^ 64 → is_set word k ≡ true → k < 64
set_within word k fits set =
    elim (cases_lt k 64) [
      | inl within ↦ within
      | inr past ↦ absurd (cc (is_set_from word k 0 (bit_at_above word 64 k fits past)))
    ]

-- a word that isn't 0 has a bit
pub some_bit : (word : ℕ) → 0 < word → word < 2 ^ 64 → ((i : ℕ) → i < 64 → is_set word i ≡ false) → ⊥
some_bit word some fits none =
    let least = lowest_of word some fits in
    both_ways _ (none _ (set_within word _ fits least.passes)) least.passes

twice : (j n : ℕ) → n < 2 ^ suc j → n < 2 * 2 ^ j
twice j n h = omega (arith, pow-suc 2 j)

module _ (word mask place : ℕ) (masks : (k : ℕ) → is_set mask k ≡ nat_lt k place) where
  -- below the place, the masked word has the bits of the word
  below_place : (i : ℕ) → i < place → is_set (bit_and word mask) i ≡ is_set word i
  below_place i below = is_set_and word mask i ∙ ap (λ b. is_set word i && b) (masks i ∙ lt-ltb i place below) ∙ and_true (is_set word i)

  -- where the masked word is 0, no bit is set below the place
  pub highest_none : bit_and word mask ≡ 0 → (i : ℕ) → i < place → is_set word i ≡ false
  highest_none none i below = sym (below_place i below) ∙ ap (λ n. is_set n i) none ∙ is_set_from 0 i 0 (bit_at-zero i)

  -- the highest bit of the masked word stands at the greatest place below whose bit is set
  pub highest_some : 0 < bit_and word mask → bit_and word mask < 2 ^ 64 → IsGreatest (is_set word) place
      (63 - count_leading_zeros 64 (bit_and word mask))
  highest_some some fits =
      let both = bit_and word mask in
      let top = leading_top 64 both some fits in
      let j = top.0 in
      let at : 63 - count_leading_zeros 64 both ≡ j = omega arith in
      let upper : both / 2 ^ j < 2 = div_below both (2 ^ j) 2 (pow_pos j) (twice j both top.3) in
      let lower : 1 ≤ both / 2 ^ j = le-div 1 both (2 ^ j) (pow_pos j) (omega (arith, top.2)) in
      let one : both / 2 ^ j ≡ 1 = omega arith in
      let set : is_set both j ≡ true = is_set_from both j 1 (ap (λ n. n % 2) one) in
      let parts = and_parts _ _ (sym (is_set_and word mask j) ∙ set) in
      rw at (record {
        below = ltb-true j place (sym (masks j) ∙ parts.1);
        passes = parts.0;
        none_after = λ i after below.
            sym (below_place i below) ∙ is_set_from both i 0 (bit_at_above both (suc j) i top.3 (omega arith));
      })
