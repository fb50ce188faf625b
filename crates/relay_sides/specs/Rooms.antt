-- The room that was made: for the steps of the two filters of a direction, and for bytes of a read.
use Rattle.std.specs.Prelude.{◌≡◌, ◌+◌, ◌≤◌, ℕ, List, length, slice_index_or}
use Rattle.ev_types.specs.declared.side.SideId.{SideId}
use Rattle.ev_types.specs.Sides.{number}
use Rattle.stream_filters.specs.StepAnswers.{most_by_step}
use Rattle.bev_filter.specs.StepRoom.{HasStepRoom}
use Rattle.relay_sides.specs.Links.{Links, lane_at}

-- By the side at which a direction begins: how many bytes more each of its buffers takes; and how many can be made beside the buffers.
pub record Rooms : Type 0 where
  pub raw_inputs : List ℕ
  pub inputs : List ℕ
  pub outputs : List ℕ
  pub raw_outputs : List ℕ
  pub beside : ℕ

abbrev pub raw_input_room : Rooms → SideId → ℕ
raw_input_room r e = slice_index_or r.raw_inputs (number e) 0

abbrev pub input_room : Rooms → SideId → ℕ
input_room r e = slice_index_or r.inputs (number e) 0

abbrev pub output_room : Rooms → SideId → ℕ
output_room r e = slice_index_or r.outputs (number e) 0

abbrev pub raw_output_room : Rooms → SideId → ℕ
raw_output_room r e = slice_index_or r.raw_outputs (number e) 0

-- the read filter has room for its step
abbrev pub HasInputRoom : ℕ → Links → Rooms → SideId → Type 0
HasInputRoom mark k r e =
    let l = lane_at k e in
    HasStepRoom l.reader.kind (length l.buffers.raw_input) (length l.buffers.input) mark (input_room r e) r.beside l.read_made

-- the write filter has room for its step over so many bytes
abbrev pub HasOutputRoom : ℕ → ℕ → Links → Rooms → SideId → Type 0
HasOutputRoom hold count k r e =
    let l = lane_at k e in
    HasStepRoom l.writer.kind count (length l.buffers.raw_output) hold (raw_output_room r e) r.beside l.write_made

-- how many bytes the read filter's step makes at most
abbrev pub most_input : ℕ → Links → SideId → ℕ
most_input mark k e =
    let l = lane_at k e in most_by_step l.reader.kind (length l.buffers.raw_input) (length l.buffers.input) mark

-- what the write filter may be offered at most, once the read filter made its step
abbrev pub most_offered : ℕ → Links → SideId → ℕ
most_offered mark k e =
    let l = lane_at k e in
    most_input mark k e + length l.buffers.input + length l.buffers.output

-- room at the start of a direction stays
pub record KeepsStartRoom (e : SideId) (old new : Rooms) : Type 0 where
  pub input : input_room new e ≡ input_room old e
  pub beside : old.beside ≤ new.beside

-- and at its end
pub record KeepsEndRoom (e : SideId) (old new : Rooms) : Type 0 where
  pub raw_output : raw_output_room new e ≡ raw_output_room old e
  pub beside : old.beside ≤ new.beside

-- a buffer of a direction that has no byte has no room
pub record HasNoIdleRoom (k : Links) (r : Rooms) (e : SideId) : Type 0 where
  pub raw_input : length (lane_at k e).buffers.raw_input ≡ 0 → raw_input_room r e ≡ 0
  pub input : length (lane_at k e).buffers.input ≡ 0 → input_room r e ≡ 0
  pub output : length (lane_at k e).buffers.output ≡ 0 → output_room r e ≡ 0
  pub raw_output : length (lane_at k e).buffers.raw_output ≡ 0 → raw_output_room r e ≡ 0
