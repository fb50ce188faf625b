-- What contracts see of a side, and of the direction that begins at it: the bufferevents of the two sides, and what is kept beside them.
use Rattle.std.specs.Prelude.{ℕ, Bool, true, false, not, List, Option, Some, None, option_map, if◌then◌else◌, slice_index_or, Box}
use Rattle.std.specs.declared.alloc.Global.{Global}
use Rattle.relay_model.specs.Plain.{PlainSide}
use Rattle.relay_model.specs.Flow.{Flow}
use Rattle.relay_model.specs.Conserved.{Buffers}
use Rattle.relay_state.specs.Running.{Gauge, no_gauge}
use Rattle.relay_state.specs.State.{Lane}
use Rattle.side_limit.specs.LimitValue.{LimitValue}
use Rattle.bev_core.specs.BevValue.{BevValue}
use Rattle.bev_world.specs.declared.slot.Slot.{Slot}
use Rattle.relay_sides.specs.Bevs.{Bevs, bevs_at, twin}
use Rattle.relay_sides.specs.declared.flags.SideFlags.{SideFlags}
use Rattle.relay_sides.specs.declared.side.SideState.{SideState}

-- the flags of a side
abbrev pub flags_of : PlainSide → SideFlags
flags_of x = record {
  live = x.live;
  connecting = x.connecting;
  reads = x.reads;
  writes = x.writes;
  ended = x.ended;
  failed = x.failed;
  expired = x.expired;
  write_ended = x.write_ended;
  closed = x.closed;
}

-- what is kept of a side whose end is connected or not, with its limit and its group, before anything was counted
abbrev pub new_state : Bool → Option (Box LimitValue Global) → Option ℕ → SideState
new_state connected limit group = record {
  connecting = not connected;
  expired = false;
  write_ended = false;
  closed = false;
  held = false;
  bad = None;
  read = 0;
  read_made = 0;
  moved = 0;
  write_made = 0;
  given = 0;
  limit = limit;
  group = group;
}

abbrev pub state_at : List SideState → ℕ → SideState
state_at sides n = slice_index_or sides n (new_state true None None)

-- a side's limit with its buckets, where it has one
abbrev pub limit_kept : SideState → Option LimitValue
limit_kept s = option_map (λ (b : Box LimitValue Global). b.value) s.limit

-- its buckets
abbrev pub gauge_by : Option LimitValue → Gauge
gauge_by None = no_gauge
gauge_by (Some x) = x.gauge

abbrev pub gauge_of : SideState → Gauge
gauge_of s = gauge_by (limit_kept s)

-- A freed side is in no group.
abbrev pub plain_side : BevValue → SideState → PlainSide
plain_side b s = record {
  live = b.live;
  connecting = s.connecting;
  reads = b.reading;
  writes = b.writing;
  ended = b.ended;
  failed = b.failed;
  expired = s.expired;
  bad = s.bad;
  write_ended = s.write_ended;
  closed = s.closed;
  marks = record { read_low = b.read_low; read_high = b.read_high; write_low = b.write_low; write_high = b.write_high };
  timeouts = record { read_ms = b.read_ms; write_ms = b.write_ms };
  last_read = b.last_read;
  last_write = b.last_write;
  limit = option_map (λ (x : LimitValue). x.standing) (limit_kept s);
  group = if b.live then s.group else None;
  references = b.refs;
}

-- how far the direction has come, from a side to the other
abbrev pub flow_of : Bevs → Bevs → SideState → Flow
flow_of from to s = record {
  used = from.upper.read_filter.used;
  moved = s.moved;
  turned = to.upper.write_filter.used;
  given = s.given;
  read_done = from.upper.read_filter.finished;
  write_done = to.upper.write_filter.finished;
  held = s.held;
}

-- Its bytes pass the input of the bufferevent of its end, that of the filter over it, and then the output of the other side's filter
-- and that of the bufferevent under it.
abbrev pub buffers_of : Bevs → Bevs → Buffers
buffers_of from to = record {
  raw_input = from.lower.bev.input.bytes;
  input = from.upper.bev.input.bytes;
  output = to.upper.bev.output.bytes;
  raw_output = to.lower.bev.output.bytes;
}

abbrev pub lane_of : Bevs → Bevs → SideState → Lane
lane_of from to s = record {
  buffers = buffers_of from to;
  reader = from.upper.read_filter;
  writer = to.upper.write_filter;
  read = s.read;
  read_made = s.read_made;
  write_made = s.write_made;
}

-- a side by its number, and the direction that begins there
abbrev pub plain_at : List Slot → List SideState → ℕ → PlainSide
plain_at slots sides n = plain_side (bevs_at slots n).lower.bev (state_at sides n)

abbrev pub gauge_at : List SideState → ℕ → Gauge
gauge_at sides n = gauge_of (state_at sides n)

abbrev pub flow_at : List Slot → List SideState → ℕ → Flow
flow_at slots sides n = flow_of (bevs_at slots n) (bevs_at slots (twin n)) (state_at sides n)

abbrev pub lane_at : List Slot → List SideState → ℕ → Lane
lane_at slots sides n = lane_of (bevs_at slots n) (bevs_at slots (twin n)) (state_at sides n)
