-- What the definitions of this crate come to, in words of their own.
use Rattle.std.specs.Prelude.{◌≡◌, ◌≢◌, ◌↔◌, ℕ, ◌-◌, ◌^◌, ◌<◌, ◌≤◌, List, [], ◌∷◌, ◌++◌, length, take, slice_index_or, Some, None, Ok, Err}
use Rattle.std.specs.Fmt.{decimal}
use Rattle.script_text.specs.Pieces.{lines, words}
use Rattle.script_text.specs.Numbers.{number_within}
use Rattle.script_text.specs.Lines.{phrase}
use Rattle.script_text.specs.Script.{SoFar}
use Rattle.script_text.specs.Spelled.{line_read, lines_read, script_of, no_line}

-- a byte does not stand in a list
abbrev pub Lacks : ℕ → List ℕ → Type 0
Lacks byte [] = Unit {0}
Lacks byte (b ∷ bs) = (b ≢ byte) × Lacks byte bs

-- no list has the byte
abbrev pub AllLack : ℕ → List (List ℕ) → Type 0
AllLack byte [] = Unit {0}
AllLack byte (xs ∷ more) = Lacks byte xs × AllLack byte more

-- each list is a word: it has a letter, and no space
abbrev pub AreWords : List (List ℕ) → Type 0
AreWords [] = Unit {0}
AreWords (word ∷ more) = (0 < length word) × Lacks 32 word × AreWords more

-- some lists, each with LF behind it
abbrev pub with_ends : List (List ℕ) → List ℕ
with_ends [] = []
with_ends (line ∷ more) = line ++ 10 ∷ with_ends more

-- A text of lines, each with its LF, has these lines, and one more that is not empty where bytes without LF stand behind
-- them.
abbrev pub LinesAreParted : Type 0
LinesAreParted = (ls : List (List ℕ)) (last : List ℕ) → AllLack 10 ls → Lacks 10 last → (lines (with_ends ls) ≡ ls)
    × (0 < length last → lines (with_ends ls ++ last) ≡ ls ++ last ∷ [])

-- words with a single space between two are the words of that line
abbrev pub PhraseHasItsWords : Type 0
PhraseHasItsWords = (ws : List (List ℕ)) → AreWords ws → words (phrase ws) ≡ ws

-- a word spells a number exactly where it is how that number is written
abbrev pub NumbersAreDecimal : Type 0
NumbersAreDecimal = (max n : ℕ) (word : List ℕ) → max < 2 ^ 64 → (number_within max word ≡ Some n) ↔ ((word ≡ decimal n) × (n ≤ max))

-- The line with this number, counted from 1, is the first of a text that is not in the grammar: the lines before it
-- make a script, and it can't stand behind them.
pub record IsFirstBad (text : List ℕ) (n : ℕ) : Type 0 where
  pub above : 0 < n
  pub within : n ≤ length (lines text)
  pub script : SoFar
  pub before : lines_read no_line 0 (take (n - 1) (lines text)) ≡ Ok script
  pub bad : line_read script (slice_index_or (lines text) (n - 1) []) ≡ None

-- the number that a refused text has is that of its first bad line
abbrev pub RefusedAtFirstBad : Type 0
RefusedAtFirstBad = (text : List ℕ) (n : ℕ) → script_of text ≡ Err n → IsFirstBad text n
