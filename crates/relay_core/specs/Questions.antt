-- What a hook is told of a side.
use Rattle.std.specs.Prelude.{◌≡◌, ℕ, ◌||◌, nat_lt, if◌then◌else◌, List, ◌++◌, take, drop, length, min, Result, Ok, Err}
use Rattle.ev_types.specs.declared.side.SideId.{SideId}
use Rattle.ev_types.specs.Sides.{peer}
use Rattle.relay_model.specs.Plain.{side_at, is_live}
use Rattle.relay_state.specs.State.{State, lane_at}
use Rattle.relay_state.specs.Counting.{read_of, moved_of, given_of}
use Rattle.relay_sides.specs.declared.counts.Counts.{Counts}
use Rattle.relay_sides.specs.declared.questions.Lengths.{Lengths}
use Rattle.relay_core.specs.declared.fault.AskFault.{AskFault}
use Rattle.relay_core.specs.declared.fault.AskFault.TheVariants as fault

-- the bytes of a side's input
abbrev pub input_of : State → SideId → List ℕ
input_of s e = (lane_at s e).buffers.input

-- how many bytes are in each of its buffers
abbrev pub lengths_at : State → SideId → Lengths
lengths_at s e = record {
  raw_input = length (lane_at s e).buffers.raw_input;
  input = length (lane_at s e).buffers.input;
  output = length (lane_at s (peer e)).buffers.output;
  raw_output = length (lane_at s (peer e)).buffers.raw_output;
}

abbrev pub lengths_told : State → SideId → Result Lengths AskFault
lengths_told s e = if is_live s.plain e then Ok (lengths_at s e) else Err fault.NotLive

-- what was counted of a side
abbrev pub counts_at : State → SideId → Counts
counts_at s e = record { read = read_of s e; moved = moved_of s e; given = given_of s e }

-- a freed side tells its counts as long as it has a reference
abbrev pub counts_told : State → SideId → Result Counts AskFault
counts_told s e = if is_live s.plain e || nat_lt 0 (side_at s.plain e).references then Ok (counts_at s e) else Err fault.NotLive

-- How many bytes were put in front of a slice: as many as the slice has room for and the input has. The rest of the slice stays.
pub record IsPeeked (s : State) (e : SideId) (old new : List ℕ) (copied : ℕ) : Type 0 where
  pub count : copied ≡ min (length old) (length (input_of s e))
  pub bytes : new ≡ take copied (input_of s e) ++ drop copied old
