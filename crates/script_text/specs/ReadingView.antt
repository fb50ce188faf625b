-- How a reader keeps the script so far.
use Rattle.std.specs.Prelude.{◌≡◌, List}
use Rattle.ev_types.specs.declared.turn_line.TurnLine.{TurnLine}
use Rattle.script_text.specs.declared.read.Reading.TheInside.{Inside}
use Rattle.script_text.specs.Script.{SoFar}
use Rattle.script_text.specs.ScriptView.{turn_values}
use Rattle.ev_types.specs.ScriptTurn.{lines_of}
use Rattle.script_text.specs.Order.{opened_links}
use Rattle.script_text.specs.Tally.{IsTally}

-- the script of the lines so far
abbrev pub script_so_far : Inside → SoFar
script_so_far r = record { given = r.given; groups = r.groups.items; plans = r.plans.items; turns = turn_values r.turns.items }

-- the lines so far, of all turns
abbrev pub lines_so_far : Inside → List TurnLine
lines_so_far r = lines_of (turn_values r.turns.items)

-- what is kept of the links and their ends is what those lines say of them
pub record IsReading (r : Inside) : Type 0 where
  pub links : r.links.items ≡ opened_links (lines_so_far r)
  pub ends : IsTally r.ended.items (lines_so_far r)
