-- What is counted of the calls on one end, and of their faults. A number that reached the end of a u64 stays there.
use Rattle.std.specs.Prelude.{ℕ, Bool, false, ◌||◌, if◌then◌else◌}
use Rattle.ev_types.specs.declared.answer.ConnAnswer.{ConnAnswer}
use Rattle.ev_types.specs.declared.answer.ReadAnswer.{ReadAnswer}
use Rattle.ev_port.specs.declared.port.Want.{Want}
use Rattle.script_port.specs.declared.end_tally.EndTally.{EndTally}
use Rattle.ev_port.specs.Counting.{counted, risen_if}
use Rattle.ev_port.specs.Ends.{is_connected, is_ended}

abbrev pub no_calls : EndTally
no_calls = record {
  made_connected = false;
  ended = false;
  connected = false;
  write_ended = false;
  closed = false;
  reads = 0;
  writes = 0;
  checks = 0;
  rooms = 0;
  offers = 0;
  read_wants = 0;
  write_wants = 0;
  read_marks = 0;
  write_marks = 0;
  faults = 0;
}

-- 1 where it holds
abbrev pub once : Bool → ℕ
once holds = if holds then 1 else 0

-- a read with this room was answered so
abbrev pub with_read : ReadAnswer → ℕ → EndTally → EndTally
with_read answer room t = record t {
  ended = t.ended || is_ended answer;
  reads = counted t.reads 1;
  rooms = counted t.rooms room;
}

-- a write that was offered so many bytes was answered, not with want of memory
abbrev pub with_write : ℕ → EndTally → EndTally
with_write offer t = record t {
  writes = counted t.writes 1;
  offers = counted t.offers offer;
}

-- a connect check was answered so
abbrev pub with_check : ConnAnswer → EndTally → EndTally
with_check answer t = record t {
  connected = t.connected || is_connected answer;
  checks = counted t.checks 1;
}

-- the end met a fault, or none
abbrev pub with_fault : Bool → EndTally → EndTally
with_fault is_fault t = record t { faults = risen_if is_fault t.faults }

-- a poll was given this want, and left these marks
abbrev pub with_want : Want → EndTally → EndTally
with_want w t = record t {
  read_wants = counted t.read_wants (once w.read);
  write_wants = counted t.write_wants (once w.write);
  read_marks = counted t.read_marks (once w.can_read);
  write_marks = counted t.write_marks (once w.can_write);
}
