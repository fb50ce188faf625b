-- How the sides are kept: by two bufferevents each in a world, and what is kept beside them.
use Rattle.std.specs.Prelude.{◌≡◌, ◌≤◌, ◌<◌, ◌+◌, ◌-◌, ◌*◌, ◌/◌, ◌^◌, ◌==◌, if◌then◌else◌, ℕ, List, length, min, nat_lt, vec_len}
use Rattle.std.specs.Prelude.{vec_capacity, false}
use Rattle.relay_model.specs.Flow.{Flow}
use Rattle.relay_model.specs.Rooms.{most_at_once, mark_or}
use Rattle.relay_state.specs.State.{Lane}
use Rattle.bev_filter.specs.StepRoom.{HasStepRoom}
use Rattle.bev_world.specs.declared.slot.Slot.{Slot}
use Rattle.bev_world.specs.declared.slot.Kind.TheVariants.{Filter}
use Rattle.relay_sides.specs.Bevs.{Bevs, bevs_at, lower_of, twin}
use Rattle.relay_sides.specs.Table.{tabulate}
use Rattle.relay_sides.specs.Links.{Links}
use Rattle.relay_sides.specs.Rooms.{Rooms}
use Rattle.relay_sides.specs.SidesValue.{SidesValue}
use Rattle.relay_sides.specs.SideView.{plain_at, flow_at, lane_at, gauge_at, state_at}
use Rattle.relay_sides.specs.declared.sides.Sides.TheInside.{Inside}
use Rattle.relay_sides.specs.declared.side.SideState.{SideState}

-- so many links, with these bufferevents and what is kept beside them
abbrev pub links_of : ℕ → List Slot → List SideState → Links
links_of opened slots sides = record {
  opened = opened;
  sides = tabulate (plain_at slots sides) (2 * opened);
  flows = tabulate (flow_at slots sides) (2 * opened);
  lanes = tabulate (lane_at slots sides) (2 * opened);
  gauges = tabulate (gauge_at sides) (2 * opened);
}

abbrev pub rooms_of : ℕ → List Slot → ℕ → Rooms
rooms_of opened slots beside = record {
  raw_inputs = tabulate (λ n. (bevs_at slots n).lower.bev.input.spare) (2 * opened);
  inputs = tabulate (λ n. (bevs_at slots n).upper.bev.input.spare) (2 * opened);
  outputs = tabulate (λ n. (bevs_at slots (twin n)).upper.bev.output.spare) (2 * opened);
  raw_outputs = tabulate (λ n. (bevs_at slots (twin n)).lower.bev.output.spare) (2 * opened);
  beside = beside;
}

-- The links for which there is room have bufferevents in the world, all of which have numbers.
abbrev pub spare_links_of : Inside → ℕ
spare_links_of r =
    if nat_lt (4 * r.opened + 4) (2 ^ 32) then min (r.world.spare / 4) ((vec_capacity r.sides - vec_len r.sides) / 2) else 0

abbrev pub sides_of : Inside → SidesValue
sides_of r = record {
  links = links_of r.opened r.world.slots r.sides.items;
  spare_links = spare_links_of r;
  spare_reads = tabulate (λ n. if n == r.ready then r.readable else 0) (2 * r.opened);
  rooms = rooms_of r.opened r.world.slots (vec_capacity r.beside);
}

-- No filter of a direction uses more than came to it, and nothing is moved or given that was not made.
pub record IsCounted (f : Flow) (l : Lane) : Type 0 where
  pub used : f.used + length l.buffers.raw_input ≤ l.read
  pub moved : f.moved + length l.buffers.input ≤ l.read_made
  pub turned : f.turned + length l.buffers.output ≤ f.moved
  pub given : f.given + length l.buffers.raw_output ≤ l.write_made

-- So many bytes of a read can be kept and counted, and so can what the read filter makes of them and of the raw input. The spare room is
-- for the raw input with them.
pub record CanRead (b : Bevs) (s : SideState) (beside spare count : ℕ) : Type 0 where
  pub counted : s.read + count < 2 ^ 64
  pub kept : length b.lower.bev.input.bytes + count ≤ spare
  pub step : HasStepRoom b.upper.read_filter.kind (length b.lower.bev.input.bytes + count) (length b.upper.bev.input.bytes)
      (mark_or b.lower.bev.read_high most_at_once) b.upper.bev.input.spare beside s.read_made

-- There are four bufferevents for each link, of which every second one is a filter over the one before. Each buffer lies in one piece.
pub record AreSides (r : Inside) : Type 0 where
  pub slots : length r.world.slots ≡ 4 * r.opened
  pub sides : length r.sides.items ≡ 2 * r.opened
  pub filters : (n : ℕ) → n < 2 * r.opened → (bevs_at r.world.slots n).upper.kind ≡ Filter (lower_of n)
  pub counted : (n : ℕ) → n < 2 * r.opened →
      IsCounted (flow_at r.world.slots r.sides.items n) (lane_at r.world.slots r.sides.items n)
  pub one_piece : r.world.chunked ≡ false
  pub read_room : 0 < r.readable → (r.ready < 2 * r.opened)
      × CanRead (bevs_at r.world.slots r.ready) (state_at r.sides.items r.ready) (vec_capacity r.beside) r.spare r.readable
