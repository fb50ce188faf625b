-- Words that have no space and no LF, so that a line of them has these words.
use Rattle.std.proofs.Common.{◌≡◌, ◌≢◌, ◌<◌, ◌≤◌, ◌/◌, ◌%◌, ◌^◌, ℕ, zero, suc, Bool, true, ltb, ltb-true, le-leb, lit≤, List, [], ◌∷◌, ◌++◌}
use Rattle.std.proofs.Common.{length, get_or, refl, ap, sym, ◌∙◌, arith, append_assoc}
use Rattle.std.specs.List.{list_all}
use Rattle.std.specs.Fmt.{decimal}
use Rattle.std.specs.Str.{all_ascii_digits}
use Rattle.std.proofs.lemmas.Bool.{and_parts}
use Rattle.std.proofs.lemmas.Str.Parse.{tells_all_ascii_digits}
use Rattle.std.proofs.lemmas.Fmt.{digits_decimal, decimal_nonempty}
use Rattle.hex.specs.Hex.{IsBytes, encode_lower, encode_with, lower_digits}
use Rattle.hex.proofs.HexLemmas.{length-encode_with}
use Rattle.script_text.specs.Lines.{phrase, line_of}
use Rattle.script_text.specs.Laws.{Lacks, AreWords}
use Rattle.script_text.proofs.LawLemmas.{numerals}

-- a byte above the space
abbrev pub is_solid : ℕ → Bool
is_solid b = ltb 32 b

-- a word of such bytes
pub record Solid (word : List ℕ) : Type 0 where
  pub filled : 0 < length word
  pub solid : list_all is_solid word ≡ true

abbrev pub AreSolid : List (List ℕ) → Type 0
AreSolid [] = Unit {0}
AreSolid (w ∷ ws) = Solid w × AreSolid ws

-- no byte up to the space stands in such a word
pub Lacks-solid : (k : ℕ) → k ≤ 32 → (w : List ℕ) → list_all is_solid w ≡ true → Lacks k w
Lacks-solid k low [] solid = tt
Lacks-solid k low (b ∷ bs) solid =
    let parts = and_parts (is_solid b) (list_all is_solid bs) solid in
    let above : 32 < b = ltb-true 32 b parts.0 in
    let other : b ≢ k = omega arith in
    (other, Lacks-solid k low bs parts.1)

pub AreWords-solid : (ws : List (List ℕ)) → AreSolid ws → AreWords ws
AreWords-solid [] solid = tt
AreWords-solid (w ∷ ws) solid = (solid.0.filled, Lacks-solid 32 (omega arith) w solid.0.solid, AreWords-solid ws solid.1)

Lacks-append : (k : ℕ) (xs ys : List ℕ) → Lacks k xs → Lacks k ys → Lacks k (xs ++ ys)
Lacks-append k [] ys lx ly = ly
Lacks-append k (x ∷ xs) ys lx ly = (lx.0, Lacks-append k xs ys lx.1 ly)

-- nor does LF stand in a line of them
pub Lacks-phrase : (ws : List (List ℕ)) → AreSolid ws → Lacks 10 (phrase ws)
Lacks-phrase [] solid = tt
Lacks-phrase (w ∷ []) solid = Lacks-solid 10 (omega arith) w solid.0.solid
Lacks-phrase (w ∷ v ∷ ws) solid =
    let other : 32 ≢ 10 = omega arith in
    Lacks-append 10 w (32 ∷ phrase (v ∷ ws)) (Lacks-solid 10 (lit≤ tt) w solid.0.solid) (other, Lacks-phrase (v ∷ ws) solid.1)

-- a line is its phrase and LF
pub line_of-phrase : (ws : List (List ℕ)) → line_of ws ≡ phrase ws ++ 10 ∷ []
line_of-phrase [] = refl
line_of-phrase (w ∷ []) = refl
line_of-phrase (w ∷ v ∷ ws) =
    ap (λ (more : List ℕ). w ++ 32 ∷ more) (line_of-phrase (v ∷ ws)) ∙ sym (append_assoc w (32 ∷ phrase (v ∷ ws)) (10 ∷ []))

pub AreSolid-append : (ws vs : List (List ℕ)) → AreSolid ws → AreSolid vs → AreSolid (ws ++ vs)
AreSolid-append [] vs sw sv = sv
AreSolid-append (w ∷ ws) vs sw sv = (sw.0, AreSolid-append ws vs sw.1 sv)

-- ---- words of digits

digits_are_solid : (ds : List ℕ) → all_ascii_digits ds ≡ true → list_all is_solid ds ≡ true
digits_are_solid [] digits = refl
digits_are_solid (d ∷ ds) digits =
    let parts = tells_all_ascii_digits.parts d ds digits in
    let above : 33 ≤ d = omega (arith, parts.0) in
    rw (le-leb 33 d above) (digits_are_solid ds parts.1)

pub Solid-decimal : (n : ℕ) → n < 2 ^ 64 → Solid (decimal n)
Solid-decimal n fits = record { filled = decimal_nonempty n fits; solid = digits_are_solid (decimal n) (digits_decimal numerals n fits) }

-- a test that all of a list passes, at one place
pub list_all-at : (p : ℕ → Bool) (xs : List ℕ) (i : ℕ) → list_all p xs ≡ true → i < length xs → p (get_or xs i 0) ≡ true
list_all-at p [] i all lt = absurd (omega arith)
list_all-at p (x ∷ xs) zero all lt = (and_parts (p x) (list_all p xs) all).0
list_all-at p (x ∷ xs) (suc i) all lt = list_all-at p xs i (and_parts (p x) (list_all p xs) all).1 (omega arith)

-- what all hex digits pass, each digit of some bytes does
pub list_all-encode_lower : (p : ℕ → Bool) → list_all p lower_digits ≡ true → (bytes : List ℕ) → IsBytes bytes →
    list_all p (encode_lower bytes) ≡ true
unfolding encode_with
list_all-encode_lower p all [] are = refl
list_all-encode_lower p all (b ∷ bytes) are =
    let fits : b < 256 = are 0 in
    let high : b / 16 < 16 = omega arith in
    let low : b % 16 < 16 = omega arith in
    rw (list_all-at p lower_digits (b / 16) all high, list_all-at p lower_digits (b % 16) all low)
    (list_all-encode_lower p all bytes (λ i. are (suc i)))

pub Solid-encode_lower : (bytes : List ℕ) → 0 < length bytes → IsBytes bytes → Solid (encode_lower bytes)
Solid-encode_lower bytes some are = record {
  filled = omega (arith, length-encode_with lower_digits bytes, some);
  solid = list_all-encode_lower is_solid refl bytes are;
}

pub list_all-append : (p : ℕ → Bool) (xs ys : List ℕ) → list_all p xs ≡ true → list_all p ys ≡ true → list_all p (xs ++ ys) ≡ true
list_all-append p [] ys ax ay = ay
list_all-append p (x ∷ xs) ys ax ay =
    let parts = and_parts (p x) (list_all p xs) ax in
    rw (parts.0) (list_all-append p xs ys parts.1 ay)
