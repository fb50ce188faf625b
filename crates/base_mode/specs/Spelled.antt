-- The script that a text spells, or the first line that is not in the grammar.
use Rattle.std.specs.Prelude.{◌≡◌, ℕ, ◌+◌, ◌-◌, ◌^◌, ⊤, min, List, [], ◌∷◌, if◌then◌else◌, length, Option, Some, None, option_and_then}
use Rattle.std.specs.Prelude.{Result, Ok, Err}
use Rattle.std.specs.List.{list_all}
use Rattle.script_text.specs.Pieces.{lines, words}
use Rattle.script_text.specs.Spelled.{is_plain}
use Rattle.script_text.specs.declared.script.ScriptFault.{ScriptFault}
use Rattle.script_text.specs.declared.script.ScriptFault.TheVariants.{Memory, BadLine}
use Rattle.base_mode.specs.Script.{ScriptSoFar, ScriptValue}
use Rattle.base_mode.specs.Grammar.{said}
use Rattle.base_mode.specs.Order.{extended}

-- the script with the line of this text more, where the line is in the grammar there
abbrev pub line_read : ScriptSoFar → List ℕ → Option ScriptSoFar
line_read script line =
    if list_all is_plain line then option_and_then (λ what. extended script what) (said (words line)) else None

-- what a script goes on to, or this line where there is none
abbrev pub going_on : Option ScriptSoFar → ℕ → (ScriptSoFar → Result ScriptSoFar ℕ) → Result ScriptSoFar ℕ
going_on None line on = Err line
going_on (Some script) line on = on script

-- The script after some lines more, or the number of the first of them that is not in the grammar. So many lines stand
-- before them.
abbrev pub lines_read : ScriptSoFar → ℕ → List (List ℕ) → Result ScriptSoFar ℕ
lines_read script before [] = Ok script
lines_read script before (line ∷ more) =
    going_on (line_read script line) (before + 1) (λ longer. lines_read longer (before + 1) more)

-- the script of no line
abbrev pub no_line : ScriptSoFar
no_line = record { priorities = None; commands = [] }

-- A text of so many lines that has come to its end. Where no line said the number of priorities, the line behind the last
-- one is missing.
abbrev pub ended : ℕ → Option ℕ → ScriptSoFar → Result ScriptValue ℕ
ended count None script = Err (count + 1)
ended count (Some priorities) script = Ok (record { priorities = priorities; commands = script.commands })

abbrev pub whole : ℕ → Result ScriptSoFar ℕ → Result ScriptValue ℕ
whole count (Err line) = Err line
whole count (Ok script) = ended count script.priorities script

-- the script that a text spells, or the number of its first bad line, counted from 1
abbrev pub script_of : List ℕ → Result ScriptValue ℕ
script_of text = whole (length (lines text)) (lines_read no_line 0 (lines text))

-- A text that was refused for a line has this one as its first bad line. A number above 2^32 - 1 is told as that
-- number. Memory may run out whatever the text is.
abbrev pub IsTold : ScriptFault → Result ScriptValue ℕ → Type 0
IsTold Memory spelled = ⊤
IsTold (BadLine told) (Ok script) = ⊥
IsTold (BadLine told) (Err line) = told ≡ min line (2 ^ 32 - 1)
