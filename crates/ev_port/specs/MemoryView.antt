-- How a source and a sink over memory keep what they show.
use Rattle.std.specs.Prelude.{◌-◌, ◌≤◌, ◌<◌, drop, vec_len, vec_capacity}
use Rattle.ev_port.specs.declared.memory.MemSource.TheInside as source
use Rattle.ev_port.specs.declared.memory.MemSink.TheInside as sink
use Rattle.ev_port.specs.Memory.{MemSourceState, MemSinkState}

abbrev pub source_state : source.Inside → MemSourceState
source_state s = record {
  left = drop s.given s.bytes.items;
  failing = s.failing.items;
  calls = s.calls;
  faults = s.faults;
}

abbrev pub IsSource : source.Inside → Type 0
IsSource s = s.given ≤ vec_len s.bytes

abbrev pub sink_state : sink.Inside → MemSinkState
sink_state s = record {
  bytes = s.bytes.items;
  most = s.most;
  spare = vec_capacity s.bytes - vec_len s.bytes;
  failing = s.failing.items;
  calls = s.calls;
  faults = s.faults;
}

abbrev pub IsSink : sink.Inside → Type 0
IsSink s = 0 < s.most
