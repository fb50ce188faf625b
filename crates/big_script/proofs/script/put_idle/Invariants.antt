use Rattle.std.proofs.Common.{◌≡◌, ◌+◌, ◌-◌, ◌*◌, ◌++◌}
use Rattle.script_text.specs.ScriptView.{turn_values}
use Rattle.big_script.specs.BigScript.{idle_turns}
use Rattle.big_script.proofs.script.put_idle.Given as goal

-- behind the turns so far stand those that are left
abbrev pub invariant-loop-i : goal.invariant-loop-i
invariant-loop-i l =
    turn_values l.turns.items ++ idle_turns (10 - l.i) (2000 + 1000 * l.i) ≡ turn_values l.initial.turns.items ++ idle_turns 10 2000
