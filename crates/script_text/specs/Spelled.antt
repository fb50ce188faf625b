-- The script that a text spells, or the first line that is not in the grammar.
use Rattle.std.specs.Prelude.{◌≡◌, ℕ, ◌+◌, ◌-◌, ◌^◌, ⊤, min, List, [], ◌∷◌, ◌&&◌, Bool, if◌then◌else◌, nat_le, Option, Some, None}
use Rattle.std.specs.Prelude.{option_and_then, Result, Ok, Err}
use Rattle.std.specs.List.{list_all}
use Rattle.script_text.specs.Given.{nothing_given}
use Rattle.script_text.specs.Script.{ScriptValue, SoFar, whole}
use Rattle.script_text.specs.Pieces.{lines, words}
use Rattle.script_text.specs.Grammar.{said}
use Rattle.script_text.specs.Order.{extended}
use Rattle.script_text.specs.declared.script.ScriptFault.{ScriptFault}
use Rattle.script_text.specs.declared.script.ScriptFault.TheVariants.{Memory, BadLine}

-- the bytes that a line may have: the printing characters of ASCII and the space
abbrev pub is_plain : ℕ → Bool
is_plain byte = nat_le 32 byte && nat_le byte 126

-- the script so far with the line of this text more, where the line is in the grammar there
abbrev pub line_read : SoFar → List ℕ → Option SoFar
line_read so_far line =
    if list_all is_plain line then option_and_then (λ what. extended so_far what) (said (words line)) else None

-- what a script or a trace goes on to, or this line where there is none
abbrev pub going_on : {A : Type 0} → Option A → ℕ → (A → Result A ℕ) → Result A ℕ
going_on None line on = Err line
going_on (Some longer) line on = on longer

-- The script so far after some lines more, or the number of the first of them that is not in the grammar. So many lines stand
-- before them.
abbrev pub lines_read : SoFar → ℕ → List (List ℕ) → Result SoFar ℕ
lines_read so_far before [] = Ok so_far
lines_read so_far before (line ∷ more) =
    going_on (line_read so_far line) (before + 1) (λ longer. lines_read longer (before + 1) more)

-- a script of which no line was read
abbrev pub no_line : SoFar
no_line = record { given = nothing_given; groups = []; plans = []; turns = [] }

-- the whole script, where no line follows, or the same number
abbrev pub whole_of : Result SoFar ℕ → Result ScriptValue ℕ
whole_of (Ok so_far) = Ok (whole so_far)
whole_of (Err line) = Err line

-- the script that a text spells, or the number of its first bad line, counted from 1
abbrev pub script_of : List ℕ → Result ScriptValue ℕ
script_of text = whole_of (lines_read no_line 0 (lines text))

-- A text that was refused for a line has this one as its first bad line. A number above 2^32 - 1 is told as that
-- number. Memory may run out whatever the text is.
abbrev pub IsTold : {A : Type 0} → ScriptFault → Result A ℕ → Type 0
IsTold Memory spelled = ⊤
IsTold (BadLine told) (Ok value) = ⊥
IsTold (BadLine told) (Err line) = told ≡ min line (2 ^ 32 - 1)
