-- A turn of a script as a plain value, and the lines of several.
use Rattle.std.specs.Prelude.{ℕ, List}
use Rattle.std.specs.List.{flat_map}
use Rattle.ev_types.specs.declared.turn_line.TurnLine.{TurnLine}

-- a moment in milliseconds with the lines of its turn
abbrev pub ScriptTurn : Type 0
ScriptTurn = ℕ × List TurnLine

-- the lines of some turns, one after another
abbrev pub lines_of : List ScriptTurn → List TurnLine
lines_of turns = flat_map (λ turn. turn.1) turns
