-- The lines that a text spells, or the first of its lines that is not in the grammar.
use Rattle.std.specs.Prelude.{◌≡◌, ℕ, ◌+◌, ◌-◌, ◌^◌, ◌==◌, ⊤, min, List, [], ◌∷◌, ◌++◌, Bool, true, false, if◌then◌else◌, Option, Some}
use Rattle.std.specs.Prelude.{None, option_map, Result, Ok, Err}
use Rattle.std.specs.List.{list_all}
use Rattle.script_text.specs.Pieces.{lines, words}
use Rattle.script_text.specs.Spelled.{is_plain}
use Rattle.buffers_mode.specs.Grammar.{said}
use Rattle.buffers_mode.specs.declared.line.Line.{Line}
use Rattle.buffers_mode.specs.declared.fault.ModeFault.{ModeFault}
use Rattle.buffers_mode.specs.declared.fault.ModeFault.TheVariants.{Memory, BadLine, Spent}

-- a line of no words says nothing, and so does one whose first word begins with a number sign
abbrev pub is_skipped : List (List ℕ) → Bool
is_skipped [] = true
is_skipped ([] ∷ more) = false
is_skipped ((b ∷ bs) ∷ more) = b == 35

-- the lines so far with the one of this text more, where it is in the grammar; a line that is skipped adds none
abbrev pub with_line : List Line → List ℕ → Option (List Line)
with_line before text =
    if list_all is_plain text
    then (if is_skipped (words text) then Some before else option_map (λ line. before ++ line ∷ []) (said (words text)))
    else None

-- what lines go on to, or this line where there are none
abbrev pub going_on : Option (List Line) → ℕ → (List Line → Result (List Line) ℕ) → Result (List Line) ℕ
going_on None line on = Err line
going_on (Some so_far) line on = on so_far

-- The lines of a script after some texts more, or the number of the first of them that is not in the grammar. So many
-- texts stand before them.
abbrev pub lines_read : List Line → ℕ → List (List ℕ) → Result (List Line) ℕ
lines_read so_far before [] = Ok so_far
lines_read so_far before (text ∷ more) =
    going_on (with_line so_far text) (before + 1) (λ longer. lines_read longer (before + 1) more)

-- the lines that a text spells, or the number of its first bad line, counted from 1
abbrev pub script_of : List ℕ → Result (List Line) ℕ
script_of text = lines_read [] 0 (lines text)

-- A text that was refused for a line has this one as its first bad line. A number above 2^32 - 1 is told as that
-- number. Memory may run out whatever the text is, and reading spends nothing.
abbrev pub IsTold : ModeFault → Result (List Line) ℕ → Type 0
IsTold Memory spelled = ⊤
IsTold (BadLine told) (Ok script) = ⊥
IsTold (BadLine told) (Err line) = told ≡ min line (2 ^ 32 - 1)
IsTold Spent spelled = ⊥
