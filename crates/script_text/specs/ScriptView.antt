-- How a script keeps its groups, plans and turns.
use Rattle.std.specs.Prelude.{ℕ, List, map, Vec}
use Rattle.std.specs.declared.alloc.Global.{Global}
use Rattle.ev_types.specs.declared.turn_line.TurnLine.{TurnLine}
use Rattle.script_text.specs.declared.script.Script.TheInside.{Inside}
use Rattle.ev_types.specs.ScriptTurn.{ScriptTurn}
use Rattle.script_text.specs.Script.{ScriptValue}

abbrev pub turn_values : List (ℕ × Vec TurnLine Global) → List ScriptTurn
turn_values turns = map (λ turn. (turn.0, turn.1.items)) turns

abbrev pub script_value : Inside → ScriptValue
script_value s = record {
  settings = s.settings;
  members = s.members;
  groups = s.groups.items;
  plans = s.plans.items;
  turns = turn_values s.turns.items;
}
