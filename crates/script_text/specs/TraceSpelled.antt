-- The trace that a text spells, or the first line that is no line of a trace. No line is skipped, so an empty one is bad.
use Rattle.std.specs.Prelude.{ℕ, ◌+◌, List, [], ◌∷◌, ◌++◌, Option, option_map, Result, Ok}
use Rattle.ev_types.specs.Trace.{Trace}
use Rattle.script_text.specs.Pieces.{lines, words}
use Rattle.script_text.specs.EntryGrammar.{event_said}
use Rattle.script_text.specs.Spelled.{going_on}

-- the trace with the line of this text more, where it is a line of a trace
abbrev pub trace_line_read : Trace → List ℕ → Option Trace
trace_line_read t line = option_map (λ event. t ++ event ∷ []) (event_said (words line))

-- The trace after some lines more, or the number of the first of them that is no line of a trace. So many lines stand
-- before them.
abbrev pub trace_lines_read : Trace → ℕ → List (List ℕ) → Result Trace ℕ
trace_lines_read t before [] = Ok t
trace_lines_read t before (line ∷ more) =
    going_on (trace_line_read t line) (before + 1) (λ longer. trace_lines_read longer (before + 1) more)

-- the trace that a text spells, or the number of its first bad line, counted from 1
abbrev pub trace_of : List ℕ → Result Trace ℕ
trace_of text = trace_lines_read [] 0 (lines text)
