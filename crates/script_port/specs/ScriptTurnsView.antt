-- How the turns of a script are kept: what is kept of each, beside the script itself, which exists only in proofs.
use Rattle.std.specs.Prelude.{◌≡◌, ℕ, List, Vec, map}
use Rattle.std.specs.Global.{Global}
use Rattle.ev_types.specs.ScriptTurn.{ScriptTurn}
use Rattle.script_port.specs.declared.kept_line.KeptLine.{KeptLine}
use Rattle.script_port.specs.declared.script_turns.ScriptTurns.TheInside.{Inside}
use Rattle.script_port.specs.KeptLines.{kept_turn}

-- a kept turn, its lines as a list
abbrev pub shown_kept : ℕ × Vec KeptLine Global → ℕ × List KeptLine
shown_kept turn = (turn.0, turn.1.items)

abbrev pub script_turns : Inside → List ScriptTurn
script_turns t = t.log.turns

abbrev pub IsTurns : Inside → Type 0
IsTurns t = map shown_kept t.kept.items ≡ map kept_turn t.log.turns
