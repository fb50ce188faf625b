-- The numbers in words: where each one stands, and what a written word, a word more and full words make of them.
use Rattle.std.proofs.Common.{◌≡◌, ◌≢◌, inl, inr, ◌∙◌, sym, ap, refl, ℕ, ◌+◌, ◌-◌, ◌*◌, ◌/◌, ◌%◌, ◌<◌, ◌≤◌, min, Bool, false, cond, ◌&&◌}
use Rattle.std.proofs.Common.{◌||◌, ◌==◌, nat_lt, List, [], ◌∷◌, ◌++◌, length, get_or, set, arith}
use Rattle.std.proofs.lemmas.Bool.{cases_lt, cases_eq, eq-eqb, ne_eqb, cond-true, cond-false, lt-ltb, le-ltb, and_left, and_right}
use Rattle.std.proofs.lemmas.List.{get_or-set_same, get_or-set_other, get_or_append_left, get_or_push, get_or_past, get_or_read}
use Rattle.std.proofs.lemmas.List.{length_push}
use Rattle.std.proofs.lemmas.Nat.Bits.{bit_at-zero}
use Rattle.number_set.specs.Next.{in_either}
use Rattle.number_set.specs.Words.{is_set, has_number, IsKept}
use Rattle.number_set.proofs.BitLemmas.{is_set_from}

-- a number by its word and its bit
pub has_number_at : (words : List ℕ) (n at k : ℕ) → 64 * at + k ≡ n → k < 64 → has_number words n ≡ is_set (get_or words at 0) k
unfolding has_number
has_number_at words n at k is within =
    let word : n / 64 ≡ at = omega arith in
    let bit : n % 64 ≡ k = omega arith in
    rw (word, bit) refl

-- no bit of 0 is set
pub is_set_zero : (k : ℕ) → is_set 0 k ≡ false
is_set_zero k = is_set_from 0 k 0 (bit_at-zero k)

-- no number is past the words
pub has_number_past : (words : List ℕ) (n : ℕ) → 64 * length words ≤ n → has_number words n ≡ false
has_number_past words n past =
    has_number_at words n (n / 64) (n % 64) (omega arith) (omega arith) ∙
    ap (λ w. is_set w (n % 64)) (get_or_past words (n / 64) 0 (omega arith)) ∙ is_set_zero (n % 64)

-- a number of another word stays where a word is written
pub has_number_kept : (words : List ℕ) (at v n : ℕ) → n / 64 ≢ at → has_number (set words at v) n ≡ has_number words n
has_number_kept words at v n other =
    has_number_at _ n (n / 64) (n % 64) (omega arith) (omega arith) ∙
    ap (λ w. is_set w (n % 64)) (get_or-set_other words at (n / 64) v 0 other) ∙
    sym (has_number_at words n (n / 64) (n % 64) (omega arith) (omega arith))

-- a number of the word that is written is in it where its bit is set
pub has_number_written : (words : List ℕ) (at v n : ℕ) → n / 64 ≡ at → at < length words → has_number (set words at v) n ≡ is_set v (n % 64)
has_number_written words at v n here within =
    has_number_at _ n at (n % 64) (omega arith) (omega arith) ∙ ap (λ w. is_set w (n % 64)) (get_or-set_same words at v 0 within)

-- a word in which one bit is written changes that one number
pub put-numbers : (words : List ℕ) (number v word : ℕ) (member : Bool) → number < 64 * length words → word ≡ get_or words (number / 64) word
    → is_set v (number % 64) ≡ member → ((k : ℕ) → k < 64 → k ≢ number % 64 → is_set v k ≡ is_set word k) → (n : ℕ)
    → has_number (set words (number / 64) v) n ≡ cond (n == number) member (has_number words n)
put-numbers words number v word member within read same others n =
    let place : number / 64 < length words = omega arith in
    let word_is : word ≡ get_or words (number / 64) 0 = get_or_read words (number / 64) word place read 0 in
    elim (cases_eq n number) [
      | inl is ↦
          has_number_written words (number / 64) v n (ap (λ x. x / 64) is) place ∙ ap (λ x. is_set v (x % 64)) is ∙ same ∙
          sym (cond-true _ _ _ (eq-eqb n number is))
      | inr differs ↦
          elim (cases_eq (n / 64) (number / 64)) [
            | inl here ↦
                has_number_written words (number / 64) v n here place ∙ others (n % 64) (omega arith) (λ e. differs (omega arith)) ∙
                ap (λ w. is_set w (n % 64)) word_is ∙ sym (has_number_at words n (number / 64) (n % 64) (omega arith) (omega arith)) ∙
                sym (cond-false _ _ _ (ne_eqb n number differs))
            | inr elsewhere ↦
                has_number_kept words (number / 64) v n elsewhere ∙ sym (cond-false _ _ _ (ne_eqb n number differs))
          ]
    ]

-- a word without a number adds none
pub grown-numbers : (words : List ℕ) (n : ℕ) → has_number (words ++ 0 ∷ []) n ≡ has_number words n
grown-numbers words n =
    let at = n / 64 in
    let word : get_or (words ++ 0 ∷ []) at 0 ≡ get_or words at 0 =
    elim (cases_lt at (length words)) [
      | inl within ↦ get_or_append_left words _ 0 at within
      | inr past ↦
          elim (cases_eq (length words) at) as (λ _. get_or (words ++ 0 ∷ []) at 0 ≡ get_or words at 0) [
            | inl end ↦ get_or_push words 0 0 at end ∙ sym (get_or_past words at 0 past)
            | inr after ↦
                get_or_past _ at 0 (omega (arith, length_push words 0)) ∙ sym (get_or_past words at 0 past)
          ]
    ] in
    has_number_at _ n at (n % 64) (omega arith) (omega arith) ∙ ap (λ w. is_set w (n % 64)) word ∙
    sym (has_number_at words n at (n % 64) (omega arith) (omega arith))

-- the bits of a word of a full set are those of the numbers below the length
below_at : (at k len n : ℕ) → 64 * at + k ≡ n → k < 64 → nat_lt k (min (len - 64 * at) 64) ≡ nat_lt n len
below_at at k len n is within =
    elim (cases_lt n len) [
      | inl below ↦ lt-ltb k _ (omega arith) ∙ sym (lt-ltb n len below)
      | inr past ↦ le-ltb k _ (omega arith) ∙ sym (le-ltb n len past)
    ]

-- one word more is filled
pub fill-numbers : (words : List ℕ) (at v len : ℕ) → at < length words → ((k : ℕ) → is_set v k ≡ nat_lt k (min (len - 64 * at) 64))
    → ((n : ℕ) → n < 64 * at → has_number words n ≡ nat_lt n len) → (n : ℕ) → n < 64 * (at + 1)
    → has_number (set words at v) n ≡ nat_lt n len
fill-numbers words at v len within bits so_far n below =
    elim (cases_lt n (64 * at)) [
      | inl before ↦ has_number_kept words at v n (λ e. absurd (omega arith)) ∙ so_far n before
      | inr from ↦
          has_number_written words at v n (omega arith) within ∙ bits (n % 64) ∙ below_at at (n % 64) len n (omega arith) (omega arith)
    ]

-- in both of two lists of words, no number is from the shorter one's end on
both_past : (words others : List ℕ) (n : ℕ) → 64 * min (length words) (length others) ≤ n
    → (has_number words n && has_number others n) ≡ false
both_past words others n past =
    elim (cases_lt n (64 * length words)) [
      | inl within ↦ and_right _ _ (has_number_past others n (omega arith))
      | inr behind ↦ and_left _ _ (has_number_past words n behind)
    ]

or_none : (x y : Bool) → x ≡ false → y ≡ false → (x || y) ≡ false
or_none x y p q = rw (p, q) refl

-- in two pairs of words, no number is from the longer pair's end on
pub either_past : (first second third fourth : List ℕ) (n : ℕ) → 64 * min (length first) (length second) ≤ n
    → 64 * min (length third) (length fourth) ≤ n
    → in_either (has_number first) (has_number second) (has_number third) (has_number fourth) n ≡ false
either_past first second third fourth n past past_others =
    or_none _ _ (both_past first second n past) (both_past third fourth n past_others)

-- no words keep the set of length 0
pub empty_kept_at : (words : List ℕ) → length words ≡ 0 → IsKept words 0
empty_kept_at words none = record {
  enough = omega arith;
  tight = omega (arith, none);
  fits = omega arith;
  none_past = λ n past. has_number_past words n (omega (arith, none));
}

-- as many words, with all numbers below the length and no other, keep a set of that length
pub filled_kept : (words full : List ℕ) (len : ℕ) → IsKept words len → length full ≡ length words → ((n : ℕ) → n < 64 * length words →
    has_number full n ≡ nat_lt n len) → IsKept full len
filled_kept words full len kept same numbers = record {
  enough = omega arith;
  tight = omega arith;
  fits = omega arith;
  none_past = λ n past.
      elim (cases_lt n (64 * length words)) [
        | inl within ↦ numbers n within ∙ le-ltb n len past
        | inr behind ↦ has_number_past full n (omega arith)
      ];
}
