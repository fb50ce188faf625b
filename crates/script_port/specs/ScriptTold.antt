-- What a script port tells: of each end of a link of the script everything, and of other ends nothing; of itself
-- everything. And how often it met each kind of fault: an end of no link of the script meets none, and no accept does.
use Rattle.std.specs.Prelude.{Some, None}
use Rattle.std.specs.Option.{option_map_or}
use Rattle.ev_types.specs.declared.side.SideId.{SideId}
use Rattle.ev_types.specs.Told.{EndTold, PortTold}
use Rattle.ev_port.specs.Faults.{Faults}
use Rattle.script_port.specs.ScriptState.{EndState, LinksState, PortState}
use Rattle.script_port.specs.ScriptLinks.{end_of}

abbrev pub told_of_end : EndState → EndTold
told_of_end s = record {
  handed_out = Some s.given;
  taken = Some s.taken;
  made_connected = Some s.tally.made_connected;
  ended = Some s.tally.ended;
  connected = Some s.tally.connected;
  write_ended = Some s.tally.write_ended;
  closed = Some s.tally.closed;
  reads = Some s.tally.reads;
  writes = Some s.tally.writes;
  checks = Some s.tally.checks;
  rooms = Some s.tally.rooms;
  offers = Some s.tally.offers;
  read_wants = Some s.tally.read_wants;
  write_wants = Some s.tally.write_wants;
  read_marks = Some s.tally.read_marks;
  write_marks = Some s.tally.write_marks;
}

abbrev pub nothing_told : EndTold
nothing_told = record {
  handed_out = None;
  taken = None;
  made_connected = None;
  ended = None;
  connected = None;
  write_ended = None;
  closed = None;
  reads = None;
  writes = None;
  checks = None;
  rooms = None;
  offers = None;
  read_wants = None;
  write_wants = None;
  read_marks = None;
  write_marks = None;
}

abbrev pub ends_told : LinksState → SideId → EndTold
ends_told l e = option_map_or told_of_end (end_of l e) nothing_told

abbrev pub port_told : PortState → PortTold
port_told p = record {
  accept_polls = Some p.tally.accept_polls;
  timeout = Some p.tally.timeout;
  links = Some p.tally.links;
  accepting = Some p.tally.accepting;
  readings = Some p.tally.readings;
  reading = Some p.tally.reading;
  started = Some p.tally.started;
}

abbrev pub script_faults : PortState → Faults
script_faults p = record {
  ends = λ e. option_map_or (λ (s : EndState). s.tally.faults) (end_of p.links e) 0;
  polling = p.tally.poll_faults;
  listener = 0;
}
