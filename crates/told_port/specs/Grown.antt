-- How what is told of an end goes on by one step.
use Rattle.std.specs.Prelude.{ℕ, ◌+◌, Bool, ◌||◌, List, ◌++◌, Option, option_map, if◌then◌else◌}
use Rattle.ev_types.specs.declared.side.SideId.{SideId}
use Rattle.ev_types.specs.Sides.{same_end}
use Rattle.ev_types.specs.Told.{EndTold}
use Rattle.ev_port.specs.EndSteps.{EndStep, no_step}

abbrev pub joined : List ℕ → Option (List ℕ) → Option (List ℕ)
joined more told = option_map (λ bytes. bytes ++ more) told

abbrev pub raised : Bool → Option Bool → Option Bool
raised flag told = option_map (λ before. before || flag) told

abbrev pub added : ℕ → Option ℕ → Option ℕ
added more told = option_map (λ before. before + more) told

-- what is told of an end, with one step more
abbrev pub grown : EndStep → EndTold → EndTold
grown step told = record {
  handed_out = joined step.got told.handed_out;
  taken = joined step.took told.taken;
  made_connected = raised step.made_connected told.made_connected;
  ended = raised step.ended told.ended;
  connected = raised step.connected told.connected;
  write_ended = raised step.write_ended told.write_ended;
  closed = raised step.closed told.closed;
  reads = added step.reads told.reads;
  writes = added step.writes told.writes;
  checks = added step.checks told.checks;
  rooms = added step.room told.rooms;
  offers = added step.offer told.offers;
  read_wants = added step.read_wants told.read_wants;
  write_wants = added step.write_wants told.write_wants;
  read_marks = added step.read_marks told.read_marks;
  write_marks = added step.write_marks told.write_marks;
}

-- the step of one end, and none of every other
abbrev pub step_at : SideId → EndStep → SideId → EndStep
step_at end step e = if same_end e end then step else no_step
