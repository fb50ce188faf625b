-- The lines of a script as a port keeps them: of the bytes that a line brings in only how many they are.
use Rattle.std.specs.Prelude.{ℕ, length, List, [], map, slice_index_or}
use Rattle.ev_types.specs.declared.turn_line.TurnLine.{TurnLine}
use Rattle.ev_types.specs.declared.turn_line.TurnLine.TheVariants as line
use Rattle.ev_types.specs.ScriptTurn.{ScriptTurn}
use Rattle.script_port.specs.declared.kept_line.EndLine.TheVariants as at
use Rattle.script_port.specs.declared.kept_line.KeptLine.{KeptLine}
use Rattle.script_port.specs.declared.kept_line.KeptLine.TheVariants as kept
use Rattle.script_port.specs.ScriptLinks.{out_end}

-- what is kept of a line
abbrev pub kept_line : TurnLine → KeptLine
kept_line (line.NewLink wait) = kept.NewLink
kept_line (line.Conn link connected) = kept.At (out_end link) (at.Conn connected)
kept_line (line.Pending side bytes) = kept.At side (at.Pending (length bytes))
kept_line (line.Eof side) = kept.At side at.Eof
kept_line (line.ReadFail side) = kept.At side at.ReadFail
kept_line (line.Take side more) = kept.At side (at.Take more)
kept_line (line.WriteFail side) = kept.At side at.WriteFail
kept_line (line.Spur side) = kept.At side at.Spur
kept_line line.PollFail = kept.PollFail

-- what is kept of a turn: its moment, and what is kept of its lines
abbrev pub kept_turn : ScriptTurn → ℕ × List KeptLine
kept_turn turn = (turn.0, map kept_line turn.1)

-- the turn at this place
abbrev pub turn_at : List ScriptTurn → ℕ → ScriptTurn
turn_at turns place = slice_index_or turns place (0, [])
