-- What a port tells that says nothing of itself and of its ends.
use Rattle.std.specs.Prelude.{None}
use Rattle.ev_types.specs.declared.side.SideId.{SideId}
use Rattle.ev_types.specs.Told.{EndTold, PortTold}

abbrev pub silent_port : PortTold
silent_port = record {
  accept_polls = None;
  timeout = None;
  links = None;
  accepting = None;
  readings = None;
  reading = None;
  started = None;
}

abbrev pub silent_end : SideId → EndTold
silent_end e = record {
  handed_out = None;
  taken = None;
  made_connected = None;
  ended = None;
  connected = None;
  write_ended = None;
  closed = None;
  reads = None;
  writes = None;
  checks = None;
  rooms = None;
  offers = None;
  read_wants = None;
  write_wants = None;
  read_marks = None;
  write_marks = None;
}
