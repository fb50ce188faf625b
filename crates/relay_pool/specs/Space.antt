-- How far the ends of sides may be read and written, whatever limits and groups leave them.
use Rattle.std.specs.Prelude.{ℕ, ◌+◌, ◌-◌, Bool, ◌&&◌, not, if◌then◌else◌, length}
use Rattle.ev_types.specs.declared.side.SideId.{SideId}
use Rattle.ev_types.specs.Sides.{peer}
use Rattle.relay_model.specs.Rooms.{is_readable, is_writable}
use Rattle.relay_sides.specs.Links.{Links, side_at, lane_at, read_mark}
use Rattle.relay_pool.specs.declared.space.Space.{Space}

-- by how many bytes its input is short of the read mark
abbrev pub read_space : Links → SideId → ℕ
read_space k e =
    if is_readable (side_at k e) (side_at k (peer e))
    then (let b = (lane_at k e).buffers in read_mark k e - (length b.raw_input + length b.input))
    else 0

-- how many bytes wait to be given to its end
abbrev pub write_space : Links → SideId → ℕ
write_space k e = if is_writable (side_at k e) then length (lane_at k (peer e)).buffers.raw_output else 0

abbrev pub space_of : Links → SideId → Space
space_of k e = record {
  read = read_space k e;
  write = write_space k e;
  connecting = (let x = side_at k e in x.live && x.connecting && not x.failed);
}
