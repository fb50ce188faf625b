-- What a text is answered.
use Rattle.std.specs.Prelude.{◌≡◌, ⊤, ℕ, ◌-◌, ◌^◌, min, List, Option, Some, None, option_map, Result, Ok, Err}
use Rattle.buffers_mode.specs.declared.line.Line.{Line}
use Rattle.buffers_mode.specs.declared.fault.ModeFault.{ModeFault}
use Rattle.buffers_mode.specs.declared.fault.ModeFault.TheVariants.{Memory, BadLine, Spent}
use Rattle.buffers_mode.specs.Spelled.{script_of}
use Rattle.buffers_mode.specs.Run.{fresh_run, lines_played}

-- what the lines of a script are answered; there is nothing where a count would not fit
abbrev pub answers_to : List Line → Option (List ℕ)
answers_to lines = option_map (λ run. run.text) (lines_played fresh_run lines)

abbrev pub answered : Result (List Line) ℕ → Result (Option (List ℕ)) ℕ
answered (Ok lines) = Ok (answers_to lines)
answered (Err line) = Err line

-- what the script is answered that a text spells, or the number of the first line that is not in the grammar
abbrev pub answers_of : List ℕ → Result (Option (List ℕ)) ℕ
answers_of text = answered (script_of text)

-- Why there are no answers. A text that was refused for a line has this one as its first bad line; a number above
-- 2^32 - 1 is told as that number. A run is spent exactly where a count would not fit. Memory may run out at any time.
abbrev pub EndsFor : ModeFault → Result (Option (List ℕ)) ℕ → Type 0
EndsFor Memory answers = ⊤
EndsFor (BadLine told) (Ok answers) = ⊥
EndsFor (BadLine told) (Err line) = told ≡ min line (2 ^ 32 - 1)
EndsFor Spent (Ok None) = ⊤
EndsFor Spent (Ok (Some text)) = ⊥
EndsFor Spent (Err line) = ⊥
