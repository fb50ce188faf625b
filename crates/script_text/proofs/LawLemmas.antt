-- Lines, words, numbers and bad lines, as the laws say them.
use Rattle.std.proofs.Common.{◌≡◌, ◌<◌, ◌≤◌, ◌+◌, ◌-◌, ◌^◌, ℕ, zero, suc, true, false, cond, ◌&&◌, leb, List, [], ◌∷◌, ◌++◌, length, take}
use Rattle.std.proofs.Common.{get_or, refl, ap, sym, ◌∙◌, arith, inl, inr, Option, Some, None, Result, Ok, Err, rules, leb-true, le-leb}
use Rattle.std.proofs.Common.{append_assoc}
use Rattle.std.specs.Fmt.{decimal}
use Rattle.std.specs.Str.{all_ascii_digits}
use Rattle.std.proofs.lemmas.Bool.{and_parts, false≢true}
use Rattle.std.proofs.lemmas.Bool.Decides.{eqb_tells}
use Rattle.std.proofs.lemmas.Str.Parse.{IsNumeralModel, numerals_by_fold, tells_all_ascii_digits}
use Rattle.std.proofs.lemmas.Fmt.{digits_decimal, digits_value-decimal, decimal-digits_value, decimal_digit, decimal_nonempty}
use Rattle.std.proofs.lemmas.Fmt.{first_decimal}
use Rattle.script_text.specs.Pieces.{pieces, begun, lines, words}
use Rattle.script_text.specs.Numbers.{value_of, is_numeral, number_within}
use Rattle.script_text.specs.Lines.{phrase}
use Rattle.script_text.specs.Script.{ScriptValue, SoFar, whole}
use Rattle.script_text.specs.Spelled.{line_read, lines_read, going_on, whole_of, script_of, no_line}
use Rattle.script_text.specs.Laws.{Lacks, AllLack, AreWords, with_ends, IsFirstBad}
use Rattle.script_text.proofs.NumberLemmas.{value_from, is_numeral-plain}

-- bytes up to a stop are the first piece
pub pieces-stopped : (stop : ℕ) (xs rest : List ℕ) → Lacks stop xs → pieces stop (xs ++ stop ∷ rest) ≡ xs ∷ pieces stop rest
pieces-stopped stop [] rest lacks = elim (eqb_tells stop stop) [ inl h ↦ rw h.0 refl | inr h ↦ absurd (h.1 refl) ]
pieces-stopped stop (x ∷ xs) rest lacks = elim (eqb_tells x stop) [
  | inl h ↦ absurd (lacks.0 h.1)
  | inr h ↦ rw h.0 (ap (begun x) (pieces-stopped stop xs rest lacks.1))
]

-- bytes with no stop are the only piece
pub pieces-only : (stop : ℕ) (xs : List ℕ) → 0 < length xs → Lacks stop xs → pieces stop xs ≡ xs ∷ []
pieces-only stop [] full lacks = absurd (omega arith)
pieces-only stop (x ∷ []) full lacks = elim (eqb_tells x stop) [ inl h ↦ absurd (lacks.0 h.1) | inr h ↦ rw h.0 refl ]
pieces-only stop (x ∷ y ∷ ys) full lacks = elim (eqb_tells x stop) [
  | inl h ↦ absurd (lacks.0 h.1)
  | inr h ↦ rw h.0 (ap (begun x) (pieces-only stop (y ∷ ys) (omega arith) lacks.1))
]

pub lines-with_ends : (ls : List (List ℕ)) (last : List ℕ) → AllLack 10 ls → lines (with_ends ls ++ last) ≡ ls ++ lines last
lines-with_ends [] last lack = refl
lines-with_ends (l ∷ ls) last lack =
    ap lines (append_assoc l (10 ∷ with_ends ls) last)
    ∙ pieces-stopped 10 l (with_ends ls ++ last) lack.0
    ∙ ap (λ (more : List (List ℕ)). l ∷ more) (lines-with_ends ls last lack.1)

pub words-phrase : (ws : List (List ℕ)) → AreWords ws → words (phrase ws) ≡ ws
words-phrase [] are = refl
words-phrase ([] ∷ ws) are = absurd (omega (arith, are.0))
words-phrase ((b ∷ bs) ∷ []) are = rw (pieces-only 32 (b ∷ bs) are.0 are.1) refl
words-phrase ((b ∷ bs) ∷ v ∷ vs) are =
    rw (pieces-stopped 32 (b ∷ bs) (phrase (v ∷ vs)) are.1) (ap (λ (more : List (List ℕ)). (b ∷ bs) ∷ more) (words-phrase (v ∷ vs) are.2))

-- the digits are std's
pub numerals : IsNumeralModel (λ ds. all_ascii_digits ds ≡ true) value_of
numerals = numerals_by_fold _ tells_all_ascii_digits value_from (search rules)

pub is_numeral-decimal : (n : ℕ) → n < 2 ^ 64 → is_numeral (decimal n) ≡ true
is_numeral-decimal zero fits = rw (decimal_digit 0 (omega arith)) refl
is_numeral-decimal (suc n) fits =
    is_numeral-plain (decimal (suc n)) (decimal_nonempty (suc n) fits)
    (λ long zero_first. absurd (omega (arith, first_decimal (suc n) (omega arith) fits, zero_first)))
    ∙ digits_decimal numerals (suc n) fits

pub is_numeral-parts : (w : List ℕ) → is_numeral w ≡ true →
    (0 < length w) × (all_ascii_digits w ≡ true) × (get_or w 0 0 ≡ 48 → length w ≡ 1)
is_numeral-parts [] is = absurd cc
is_numeral-parts (d ∷ []) is = (omega arith, is, λ zero_first. refl)
is_numeral-parts (d ∷ e ∷ ds) is = elim (eqb_tells d 48) [
  | inl h ↦ absurd (false≢true (rw h.0 at is))
  | inr h ↦ (omega arith, (and_parts _ _ is).1, λ zero_first. absurd (h.1 zero_first))
]

pub number_within-decimal : (max n : ℕ) → max < 2 ^ 64 → n ≤ max → number_within max (decimal n) ≡ Some n
number_within-decimal max n small le =
    let fits : n < 2 ^ 64 = omega arith in
    rw (is_numeral-decimal n fits, digits_value-decimal numerals n fits, le-leb n max le) refl

pub decimal-number_within : (max n : ℕ) (word : List ℕ) → max < 2 ^ 64 → number_within max word ≡ Some n → (word ≡ decimal n) × (n ≤ max)
decimal-number_within max n word small spelled =
    elim (is_numeral word && leb (value_of word) max) as
    (λ v. (is_numeral word && leb (value_of word) max) ≡ v → cond v (Some (value_of word)) None ≡ Some n →
    (word ≡ decimal n) × (n ≤ max)) [
      | true ↦ λ both is.
          let parts = is_numeral-parts word (and_parts (is_numeral word) (leb (value_of word) max) both).0 in
          let within : value_of word ≤ max = leb-true (value_of word) max (and_parts (is_numeral word) (leb (value_of word) max) both).1 in
          let same : value_of word ≡ n = cc in
          let written = decimal-digits_value numerals word parts.1 parts.0 parts.2 (omega arith) in
          (sym written ∙ ap decimal same, omega arith)
      | false ↦ λ neither is. cc
    ] refl spelled

-- where the lines from here on are first bad
pub record IsBadAt (from : SoFar) (before : ℕ) (ls : List (List ℕ)) (n : ℕ) : Type 0 where
  pub place : ℕ
  pub number : n ≡ before + place + 1
  pub within : place < length ls
  pub script : SoFar
  pub spelled : lines_read from before (take place ls) ≡ Ok script
  pub bad : line_read script (get_or ls place []) ≡ None

pub lines_read-bad : (from : SoFar) (before : ℕ) (ls : List (List ℕ)) (n : ℕ) → lines_read from before ls ≡ Err n →
    IsBadAt from before ls n
lines_read-bad from before [] n refused = absurd cc
lines_read-bad from before (l ∷ ls) n refused =
    elim (line_read from l) as
    (λ o. line_read from l ≡ o → going_on o (before + 1) (λ longer. lines_read longer (before + 1) ls) ≡ Err n →
    IsBadAt from before (l ∷ ls) n) [
      | None ↦ λ here no.
          let same : before + 1 ≡ n = cc in
          record { place = 0; number = omega arith; within = omega arith; script = from; spelled = refl; bad = here }
      | Some longer ↦ λ here on.
          let later = lines_read-bad longer (before + 1) ls n on in
          record {
            place = suc later.place;
            number = omega (arith, later.number);
            within = omega (arith, later.within);
            script = later.script;
            spelled = ap (λ (o : Option SoFar). going_on o (before + 1)
                (λ longer. lines_read longer (before + 1) (take later.place ls))) here ∙ later.spelled;
            bad = later.bad;
          }
    ] refl refused

-- a text that spells no script has a line that is not read
whole_of-bad : (r : Result SoFar ℕ) (n : ℕ) → whole_of r ≡ Err n → r ≡ Err n
whole_of-bad (Ok so_far) n refused = absurd cc
whole_of-bad (Err line) n refused = cc

pub script_of-bad : (text : List ℕ) (n : ℕ) → script_of text ≡ Err n → IsFirstBad text n
script_of-bad text n refused =
    let at = lines_read-bad no_line 0 (lines text) n (whole_of-bad (lines_read no_line 0 (lines text)) n refused) in
    let place : at.place ≡ n - 1 = omega (arith, at.number) in
    record {
      above = omega (arith, at.number);
      within = omega (arith, at.number, at.within);
      script = at.script;
      before = rw (← place) at.spelled;
      bad = rw (← place) at.bad;
    }

-- a script that a text spells is the whole of what its lines come to
pub record IsRead (text : List ℕ) (script : ScriptValue) : Type 0 where
  pub so_far : SoFar
  pub read : lines_read no_line 0 (lines text) ≡ Ok so_far
  pub is : whole so_far ≡ script

whole_of-ok : (text : List ℕ) (script : ScriptValue) (r : Result SoFar ℕ) → lines_read no_line 0 (lines text) ≡ r → whole_of r ≡ Ok script →
    IsRead text script
whole_of-ok text script (Ok so_far) read spelled = record { so_far = so_far; read = read; is = cc }
whole_of-ok text script (Err line) read spelled = absurd cc

pub script_of-read : (text : List ℕ) (script : ScriptValue) → script_of text ≡ Ok script → IsRead text script
script_of-read text script spelled = whole_of-ok text script (lines_read no_line 0 (lines text)) refl spelled

-- a reader at the end of a text has the whole script
pub script_of-last : (text rest : List ℕ) (so_far : SoFar) (before : ℕ) → length rest ≡ 0 →
    lines_read so_far before (lines rest) ≡ lines_read no_line 0 (lines text) → script_of text ≡ Ok (whole so_far)
script_of-last text [] so_far before none read = ap whole_of (sym read)
script_of-last text (b ∷ bs) so_far before none read = absurd (omega (arith, none))
