use Rattle.std.proofs.Common.{◌≡◌, map}
use Rattle.ev_types.specs.ScriptTurn.{lines_of}
use Rattle.script_port.specs.KeptLines.{kept_turn}
use Rattle.script_port.specs.ScriptKept.{with_all_bytes}
use Rattle.script_port.specs.ScriptTurnsView.{shown_kept}
use Rattle.script_port.proofs.TurnLemmas.{shown_turn}
use Rattle.script_port.proofs.script_turns.ScriptTurns.keep.Given as goal

-- of the turns so far the bytes are to come, and the rest is kept
abbrev pub invariant-loop-moment : goal.invariant-loop-moment
invariant-loop-moment l = record {
  kept : map shown_kept l.kept.items ≡ map kept_turn (map shown_turn l.yielded);
  state : l.links.state ≡ l.initial.links.state;
  to_open : l.links.to_open ≡ l.initial.links.to_open;
  to_come : l.links.to_come ≡ with_all_bytes (lines_of (map shown_turn l.yielded)) l.initial.links.to_come;
}
