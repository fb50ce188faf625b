-- Closing a link: which steps are called for, what they put into the trace, and what they change.
use Rattle.std.specs.Prelude.{ℕ, Bool, ◌==◌, ◌&&◌, not, length, Option, Some, None, option_map, if◌then◌else◌}
use Rattle.ev_types.specs.declared.side.Side.TheVariants.{In, Out}
use Rattle.ev_types.specs.declared.side.SideId.{SideId}
use Rattle.ev_types.specs.declared.entry.Entry.{Entry}
use Rattle.ev_types.specs.declared.entry.Entry.TheVariants as entry
use Rattle.ev_types.specs.declared.why.Cause.TheVariants as cause
use Rattle.ev_types.specs.Sides.{number, peer}
use Rattle.rate_group.specs.Steps.{left}
use Rattle.relay_model.specs.Due.{without_reasons}
use Rattle.relay_model.specs.Plain as plain
use Rattle.relay_model.specs.Plain.{side_at, flow_at, is_live}
use Rattle.relay_model.specs.Close.{CloseStep, fault, freed_entry, entry_where, closed_by}
use Rattle.relay_state.specs.State.{State, lane_at, with_plain, with_lane, lane_left, lane_lost}
use Rattle.relay_state.specs.Rooms.{output_length}

abbrev pub in_side : ℕ → SideId
in_side link = record { link = link; side = In }

abbrev pub out_side : ℕ → SideId
out_side link = record { link = link; side = Out }

-- all bytes of the direction that begins at a side were given, and no more will come
abbrev pub is_complete : State → SideId → Bool
is_complete s from =
    let b = (lane_at s from).buffers in
    (side_at s.plain from).ended && (flow_at s.plain from).write_done
    && length b.raw_input == 0 && length b.input == 0 && length b.output == 0 && length b.raw_output == 0

-- what is put where a step is to be done, or nothing
abbrev pub closing_entry : State → CloseStep → Option Entry
closing_entry s (CloseStep.Faulty e) = if is_live s.plain e then option_map (freed_entry s.plain e) (fault (side_at s.plain e)) else None
closing_entry s (CloseStep.EndWriting e) =
    let x = side_at s.plain e in
    entry_where (x.live && is_live s.plain (peer e) && is_complete s (peer e) && not x.connecting && not x.write_ended) (entry.CloseWrite e)
closing_entry s (CloseStep.BothDone k) =
    let x = side_at s.plain (in_side k) in
    let y = side_at s.plain (out_side k) in
    entry_where (x.live && y.live && x.write_ended && y.write_ended) (freed_entry s.plain (in_side k) cause.Done)
closing_entry s (CloseStep.OutDone k) = Some (freed_entry s.plain (out_side k) cause.Done)
closing_entry s (CloseStep.PeerGone e) =
    entry_where (is_live s.plain e && not (is_live s.plain (peer e)) && output_length s e == 0) (freed_entry s.plain e cause.PeerGone)
closing_entry s (CloseStep.Shut e) = entry_where (not (is_live s.plain e) && not (side_at s.plain e).closed) (entry.Close e)

-- no reason of the side is fired any more
abbrev pub without_batch : SideId → State → State
without_batch e s = record s { batch = without_reasons e s.batch }

-- the side is in no group any more
abbrev pub without_group : SideId → State → State
without_group e s = record s { groups = left (number e) s.groups }

-- The side is freed: of the direction that begins at it what was not moved is dropped, and of the one that ends at it what waits.
abbrev pub freed : SideId → State → State
freed e s =
    let own : State = with_lane e (lane_left (lane_at s e)) (with_plain (plain.freed e s.plain) (without_group e (without_batch e s))) in
    with_lane (peer e) (lane_lost (lane_at own (peer e))) own

-- what a step changes
abbrev pub closed : CloseStep → State → State
closed (CloseStep.Faulty e) s = freed e s
closed (CloseStep.EndWriting e) s = with_plain (closed_by (CloseStep.EndWriting e) s.plain) s
closed (CloseStep.BothDone k) s = freed (in_side k) s
closed (CloseStep.OutDone k) s = freed (out_side k) s
closed (CloseStep.PeerGone e) s = freed e s
closed (CloseStep.Shut e) s = with_plain (closed_by (CloseStep.Shut e) s.plain) s
