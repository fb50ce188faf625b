-- How many bytes may be read from a side's end and given to it now, and what a side wants.
use Rattle.std.specs.Prelude.{ℕ, ◌+◌, ◌-◌, Bool, ◌&&◌, ◌||◌, not, nat_le, if◌then◌else◌, List, length, Option, option_map, min, take}
use Rattle.std.specs.Prelude.{filter, map}
use Rattle.token_bucket.specs.declared.limit.Dir.{Dir}
use Rattle.token_bucket.specs.declared.limit.Dir.TheVariants as dir
use Rattle.ev_types.specs.declared.side.SideId.{SideId}
use Rattle.ev_types.specs.Sides.{number, peer}
use Rattle.rate_group.specs.Steps.{share_in}
use Rattle.relay_model.specs.Plain.{side_at, all_sides}
use Rattle.relay_model.specs.Rooms.{Want, at_most, most_at_once, read_mark, may_read, may_write, is_connecting}
use Rattle.relay_state.specs.State.{State, lane_at, gauge_at}
use Rattle.relay_state.specs.Running.{held_at}

-- what was read from a side and not moved to its peer yet
abbrev pub input_length : State → SideId → ℕ
input_length s e = length (lane_at s e).buffers.raw_input + length (lane_at s e).buffers.input

-- the bytes that wait to be given to a side's end
abbrev pub waiting_for : State → SideId → List ℕ
waiting_for s e = (lane_at s (peer e)).buffers.raw_output

-- what was moved to a side and not given to its end yet
abbrev pub output_length : State → SideId → ℕ
output_length s e = length (lane_at s (peer e)).buffers.output + length (waiting_for s e)

-- what a side's own limit leaves it to move in a direction
abbrev pub allowance : State → SideId → Dir → Option ℕ
allowance s e d = option_map (λ y. held_at y.cfg (gauge_at s e) d s.plain.time) (side_at s.plain e).limit

-- what its group leaves to it, where it is in one
abbrev pub share : State → SideId → Dir → Option ℕ
share s e d = share_in (number e) d s.groups

-- what limit and group leave of a number of bytes
abbrev pub within_rates : State → SideId → Dir → ℕ → ℕ
within_rates s e d n = at_most (share s e d) (at_most (allowance s e d) n)

-- A read brings at most the most bytes of one read, and no more than the input is short of the read mark.
abbrev pub read_room : State → SideId → ℕ
read_room s e = if may_read s.plain e then within_rates s e dir.Read (min most_at_once (read_mark s.plain e - input_length s e)) else 0

abbrev pub write_room : State → SideId → ℕ
write_room s e = if may_write s.plain e then within_rates s e dir.Write (min most_at_once (length (waiting_for s e))) else 0

-- what is given to a side's end now
abbrev pub offer : State → SideId → List ℕ
offer s e = take (write_room s e) (waiting_for s e)

-- It wants to read where it may read a byte. It wants to write where it may write one, or is connecting and not failed.
abbrev pub wants : State → SideId → Dir → Bool
wants s e dir.Read = nat_le 1 (read_room s e)
wants s e dir.Write = nat_le 1 (write_room s e) || (is_connecting s.plain e && not (side_at s.plain e).failed)

abbrev pub want_of : State → SideId → Want
want_of s e = record { side = e; read = wants s e dir.Read; write = wants s e dir.Write }

-- the wanted list: each side that wants something, in number order
abbrev pub wanted : State → List Want
wanted s = filter (λ w. w.read || w.write) (map (want_of s) (all_sides s.plain))
