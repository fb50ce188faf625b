-- How many sides of a word want something, by the bits of its two words.
use Rattle.std.proofs.Common.{◌≡◌, ◌∙◌, ℕ, zero, suc, ◌+◌, ◌*◌, ◌/◌, ◌%◌, ◌^◌, ◌<◌, ◌≤◌, ◌==◌, length, cond, bit_or, count_ones}
use Rattle.std.proofs.Common.{sym, ap, ap₂, arith, inl, inr}
use Rattle.std.specs.Int.{bit_at}
use Rattle.std.proofs.lemmas.Bool.{cases_eq, eq-eqb, ne_eqb}
use Rattle.std.proofs.lemmas.Nat.{mod-pow-add, ones_cat, ones_le_self, or_lt, pow_pos}
use Rattle.std.proofs.lemmas.Nat.Bits.{bit_at-lt}
use lib.Count.{ones-ones}
use native.Mathlib.Nat.{mod-lt, mod-eq_of_lt}
use Rattle.number_set.specs.Words.{is_set}
use Rattle.number_set.proofs.BitLemmas.{is_set_or}
use Rattle.ev_port.specs.declared.want_word.WantWord.{WantWord}
use Rattle.ev_port.specs.Table.{wants_some}
use Rattle.ev_port.specs.WantWords.{word_row, word_rows_before, word_rows}
use Rattle.ev_port.proofs.NamedLemmas.{one_if}
use Rattle.ev_port.proofs.WantWordLemmas.{length-word_more}

-- a bit alone is its own count
ones-bit : (b : ℕ) → b < 2 → count_ones b ≡ b
ones-bit b l = elim (cases_eq b 1) [
  | inl e ↦ ap count_ones e ∙ ones-ones 1 ∙ sym e
  | inr e ↦ (let s = ones_le_self b in omega (arith, s, l, e))
]

-- one bit more
ones-more : (n k : ℕ) → count_ones (n % 2 ^ suc k) ≡ count_ones (n % 2 ^ k) + bit_at n k
ones-more n k =
    let more : suc k ≡ 1 + k = omega arith in
    let b = bit_at n k in
    let low = ones-bit b (bit_at-lt n k) in
    let cat = ap count_ones (ap (λ m. n % 2 ^ m) more ∙ mod-pow-add n 1 k) ∙ ones_cat k b (n % 2 ^ k) (mod-lt n (pow_pos k)) in
    cat ∙ (let e : count_ones b + count_ones (n % 2 ^ k) ≡ count_ones (n % 2 ^ k) + b = omega (arith, low) in e)

one-bit : (b : ℕ) → b < 2 → one_if (b == 1) ≡ b
one-bit b l = elim (cases_eq b 1) [
  | inl e ↦ ap one_if (eq-eqb b 1 e) ∙ sym e
  | inr e ↦ ap one_if (ne_eqb b 1 e) ∙ (let z : 0 ≡ b = omega (arith, l, e) in z)
]

-- a side wants something where its bit is set in one of the words
one-want : (x : WantWord) (k : ℕ) → one_if (wants_some (word_row x k)) ≡ bit_at (bit_or x.read x.write) k
one-want x k = ap one_if (sym (is_set_or x.read x.write k)) ∙ one-bit _ (bit_at-lt (bit_or x.read x.write) k)

length-word_ones : (x : WantWord) (k : ℕ) → length (word_rows_before x k) ≡ count_ones (bit_or x.read x.write % 2 ^ k)
length-word_ones x zero =
    let none : bit_or x.read x.write % 1 ≡ 0 = omega arith in
    let s = ones_le_self 0 in
    sym (ap count_ones none ∙ (let z : count_ones 0 ≡ 0 = omega (arith, s) in z))
length-word_ones x (suc k) =
    length-word_more x k
    ∙ ap₂ (λ m n. m + n) (length-word_ones x k) (one-want x k)
    ∙ sym (ones-more (bit_or x.read x.write) k)

pub count-word : (x : WantWord) → x.read < 2 ^ 64 → x.write < 2 ^ 64 → count_ones (bit_or x.read x.write) ≡ length (word_rows x)
unfolding word_rows
count-word x read write = ap count_ones (sym (mod-eq_of_lt (or_lt 64 x.read x.write read write))) ∙ sym (length-word_ones x 64)
