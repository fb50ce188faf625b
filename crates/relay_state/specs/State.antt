-- The state of the relay: what the model keeps of it, and beside each direction its bytes. The changes stand in the files behind.
use Rattle.std.specs.Prelude.{ℕ, ◌+◌, List, [], ◌++◌, drop, length, map, slice_index_or, slice_set}
use Rattle.token_bucket.specs.declared.limit.Dir.{Dir}
use Rattle.ev_types.specs.declared.filter.FilterKind.TheVariants as kind
use Rattle.ev_types.specs.declared.side.SideId.{SideId}
use Rattle.ev_types.specs.Sides.{number}
use Rattle.rate_group.specs.GroupValue.{GroupsValue}
use Rattle.rate_group.specs.Steps.{made}
use Rattle.relay_model.specs.Settings.{Settings, GroupSet}
use Rattle.relay_model.specs.Due.{Reason}
use Rattle.relay_model.specs.Plain.{Plain, nothing_yet, side_at}
use Rattle.relay_model.specs.Conserved.{Buffers, no_buffers}
use Rattle.filter_model.specs.Running.{Running}
use Rattle.filter_model.specs.FilterStep.{Stepped, begun}
use Rattle.relay_state.specs.Running.{Gauge, no_gauge, gauge_after}

-- What a direction keeps beside its counts: the bytes on their way, the two filters that run, and how many bytes were read at the
-- side where it begins, made of them by the read filter, and made of those by the write filter.
pub record Lane : Type 0 where
  pub buffers : Buffers
  pub reader : Running  -- the read filter of the side that it begins at
  pub writer : Running  -- the write filter of the side that it ends at
  pub read : ℕ
  pub read_made : ℕ
  pub write_made : ℕ

-- what stands for a direction of a link that was not opened
abbrev pub no_lane : Lane
no_lane = record { buffers = no_buffers; reader = begun kind.None; writer = begun kind.None; read = 0; read_made = 0; write_made = 0 }

-- Sides, directions, timers and due entries are those of the model's plain state. A lane stands by the number of the side that it begins
-- at.
pub record State : Type 0 where
  pub settings : Settings
  pub plain : Plain
  pub lanes : List Lane
  pub batch : List Reason  -- what this turn has still to fire
  pub gauges : List Gauge  -- the buckets of each side, by number
  pub groups : GroupsValue  -- the groups by number, and by numbers of sides who is in which

-- All groups are made at time 0, and nobody is in one yet.
abbrev pub new_groups : List GroupSet → GroupsValue
new_groups xs = record { groups = map (λ x. made x.cfg x.share 0) xs; members = [] }

-- before the first turn
abbrev pub new_state : Settings → State
new_state settings = record {
  settings = settings;
  plain = nothing_yet;
  lanes = [];
  batch = [];
  gauges = [];
  groups = new_groups settings.groups;
}

-- the buckets of a side
abbrev pub gauge_in : List Gauge → SideId → Gauge
gauge_in xs e = slice_index_or xs (number e) no_gauge

abbrev pub gauge_at : State → SideId → Gauge
gauge_at s e = gauge_in s.gauges e

-- bytes were moved at a side
abbrev pub gauges_after : SideId → Dir → ℕ → State → List Gauge
gauges_after e d n s = slice_set s.gauges (number e) (gauge_after (side_at s.plain e).limit s.plain.time d n (gauge_at s e))

abbrev pub lane_at : State → SideId → Lane
lane_at s e = slice_index_or s.lanes (number e) no_lane

-- the state with another plain state
abbrev pub with_plain : Plain → State → State
with_plain p s = record s { plain = p }

-- the state with one lane replaced
abbrev pub with_lane : SideId → Lane → State → State
with_lane e l s = record s { lanes = slice_set s.lanes (number e) l }

-- Bytes that were read stand behind the raw input.
abbrev pub lane_got : List ℕ → Lane → Lane
lane_got bytes l =
    let b = l.buffers in
    record l { buffers = record b { raw_input = b.raw_input ++ bytes }; read = l.read + length bytes }

-- The read filter made a step over the raw input.
abbrev pub lane_turned : Stepped → Lane → Lane
lane_turned x l =
    let b = l.buffers in
    record l {
      buffers = record b { raw_input = drop x.used b.raw_input; input = b.input ++ x.made };
      reader = x.after;
      read_made = l.read_made + length x.made;
    }

-- The input went whole to the output.
abbrev pub lane_moved : Lane → Lane
lane_moved l = let b = l.buffers in record l { buffers = record b { input = []; output = b.input } }

-- The write filter made a step over the output.
abbrev pub lane_written : Stepped → Lane → Lane
lane_written x l =
    let b = l.buffers in
    record l {
      buffers = record b { output = drop x.used b.output; raw_output = b.raw_output ++ x.made };
      writer = x.after;
      write_made = l.write_made + length x.made;
    }

-- The first bytes of the raw output were taken.
abbrev pub lane_taken : ℕ → Lane → Lane
lane_taken n l = let b = l.buffers in record l { buffers = record b { raw_output = drop n b.raw_output } }

-- The side is freed that it begins at: what was read from there and not moved is dropped.
abbrev pub lane_left : Lane → Lane
lane_left l = let b = l.buffers in record l { buffers = record b { raw_input = []; input = [] } }

-- The side is freed that it ends at: what waits to be given to it is dropped.
abbrev pub lane_lost : Lane → Lane
lane_lost l = let b = l.buffers in record l { buffers = record b { output = []; raw_output = [] } }
