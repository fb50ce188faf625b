-- What the relay counts: bytes of a side, links, and bytes in buffers.
use Rattle.std.specs.Prelude.{ℕ, zero, suc, ◌+◌, ◌^◌, Bool, ◌&&◌, ◌||◌, nat_le, if◌then◌else◌}
use Rattle.std.specs.List.{list_any}
use Rattle.ev_types.specs.declared.side.SideId.{SideId}
use Rattle.ev_types.specs.declared.status.LinkCount.{LinkCount}
use Rattle.ev_types.specs.declared.status.LinkState.{LinkState}
use Rattle.ev_types.specs.declared.status.LinkState.TheVariants as state
use Rattle.ev_types.specs.Sides.{peer}
use Rattle.relay_model.specs.Flow.{Flow}
use Rattle.relay_model.specs.Plain.{side_at, flow_at, is_live}
use Rattle.relay_state.specs.State.{State, Lane, lane_at}
use Rattle.relay_state.specs.Rooms.{input_length, output_length}
use Rattle.relay_state.specs.Closing.{in_side, out_side}

-- the bytes that were read from a side's end
abbrev pub read_of : State → SideId → ℕ
read_of s e = (lane_at s e).read

-- the bytes that were moved from a side to its peer
abbrev pub moved_of : State → SideId → ℕ
moved_of s e = (flow_at s.plain e).moved

-- the bytes that a side's end took: the direction counts them that begins at its peer
abbrev pub given_of : State → SideId → ℕ
given_of s e = (flow_at s.plain (peer e)).given

-- a link lives while a side does; it is done where writing was ended at both
abbrev pub link_state : State → ℕ → LinkState
link_state s k =
    let own = side_at s.plain (in_side k) in
    let other = side_at s.plain (out_side k) in
    if own.live || other.live then state.Live else (if own.write_ended && other.write_ended then state.Done else state.Gone)

abbrev pub link_count : State → ℕ → LinkCount
link_count s k = record {
  state = link_state s k;
  in_read = read_of s (in_side k);
  in_given = given_of s (in_side k);
  out_read = read_of s (out_side k);
  out_given = given_of s (out_side k);
}

abbrev pub is_open : State → ℕ → Bool
is_open s k = is_live s.plain (in_side k) || is_live s.plain (out_side k)

-- how many of the first links are open
abbrev pub open_below : State → ℕ → ℕ
open_below s zero = 0
open_below s (suc n) = open_below s n + (if is_open s n then 1 else 0)

-- the bytes in the buffers of a live side: its own input, and the output that waits for it
abbrev pub buffered_at : State → SideId → ℕ
buffered_at s e = if is_live s.plain e then input_length s e + output_length s e else 0

-- and in those of the first links
abbrev pub buffered_below : State → ℕ → ℕ
buffered_below s zero = 0
buffered_below s (suc n) = buffered_below s n + buffered_at s (in_side n) + buffered_at s (out_side n)

-- how far a count may come
abbrev pub spent : ℕ
spent = 2 ^ 62

abbrev pub has_flown_far : Flow → Bool
has_flown_far f = nat_le spent f.used || nat_le spent f.moved || nat_le spent f.turned || nat_le spent f.given

abbrev pub has_read_far : Lane → Bool
has_read_far l = nat_le spent l.read || nat_le spent l.read_made || nat_le spent l.write_made

-- A count of some direction has come to 2^62, or that of the turns. A turn has an entry, so that the second comes in no run before the
-- number of entries has.
abbrev pub is_spent : State → Bool
is_spent s = nat_le spent s.plain.turn || list_any has_flown_far s.plain.flows || list_any has_read_far s.lanes
