-- A number as its digits are read, one after another.
use Rattle.std.proofs.Common.{◌≡◌, ◌≢◌, ◌<◌, ◌≤◌, ◌+◌, ◌-◌, ◌*◌, ℕ, true, false, ◌&&◌, List, [], ◌∷◌, drop, length, get_or, refl, arith}
use Rattle.std.proofs.Common.{inl, inr, cond, leb, Some, None, rules, tests}
use Rattle.std.specs.List.{fold}
use Rattle.std.specs.Str.{all_ascii_digits}
use Rattle.std.proofs.lemmas.Bool.Decides.{eqb_tells}
use Rattle.std.proofs.lemmas.List.{drop_more}
use Rattle.script_text.specs.Numbers.{value_of, is_numeral, number_within}

-- the number of some digits behind others that make n
abbrev pub value_from : ℕ → List ℕ → ℕ
value_from n digits = fold (λ n digit. n * 10 + (digit - 48)) n digits

-- more digits make no smaller number
pub value_from-grows : (n : ℕ) (ds : List ℕ) → n ≤ value_from n ds
value_from-grows n [] = omega arith
value_from-grows n (d ∷ ds) = omega (arith, value_from-grows (n * 10 + (d - 48)) ds)

pub is_numeral-plain : (w : List ℕ) → 0 < length w → (1 < length w → get_or w 0 0 ≢ 48) → is_numeral w ≡ all_ascii_digits w
is_numeral-plain [] full plain = absurd (omega arith)
is_numeral-plain (d ∷ []) full plain = refl
is_numeral-plain (d ∷ e ∷ ds) full plain = elim (eqb_tells d 48) [ inl h ↦ absurd (plain (omega arith) h.1) | inr h ↦ rw h.0 refl ]

pub is_numeral-zero : (w : List ℕ) → 1 < length w → get_or w 0 0 ≡ 48 → is_numeral w ≡ false
is_numeral-zero [] long zero = absurd (omega arith)
is_numeral-zero (d ∷ []) long zero = absurd (omega arith)
is_numeral-zero (d ∷ e ∷ ds) long zero = rw zero refl

-- a number that a digit takes past a bound is above it
pub value_of-above : (max : ℕ) (w : List ℕ) (i n : ℕ) → i < length w → value_from n (drop i w) ≡ value_of w →
    max < n * 10 + (get_or w i 0 - 48) → max < value_of w
value_of-above max w i n lt same past =
    let rest = drop (i + 1) w in
    let here : value_from (n * 10 + (get_or w i 0 - 48)) rest ≡ value_of w = rw (drop_more w i 0 lt) at same in
    omega (arith, value_from-grows (n * 10 + (get_or w i 0 - 48)) rest)

pub number_within-above : (max : ℕ) (w : List ℕ) → max < value_of w → None ≡ number_within max w
number_within-above max w above = elim (is_numeral w) as (λ v. None ≡ cond (v && leb (value_of w) max) (Some (value_of w)) None) [
  | true ↦ let no : leb (value_of w) max ≡ false = search (rules, tests) in rw no refl
  | false ↦ refl
]
