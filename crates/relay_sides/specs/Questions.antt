-- What is told of a side without changing it.
use Rattle.std.specs.Prelude.{ℕ, length}
use Rattle.token_bucket.specs.declared.limit.Dir.{Dir}
use Rattle.token_bucket.specs.declared.limit.Dir.TheVariants as dir
use Rattle.ev_types.specs.declared.side.SideId.{SideId}
use Rattle.ev_types.specs.Sides.{peer}
use Rattle.relay_model.specs.Plain.{PlainSide}
use Rattle.relay_sides.specs.Links.{Links, lane_at}
use Rattle.relay_sides.specs.declared.questions.Lengths.{Lengths}

-- the low mark of a direction
abbrev pub low_mark : PlainSide → Dir → ℕ
low_mark x dir.Read = x.marks.read_low
low_mark x dir.Write = x.marks.write_low

-- how many bytes are in the buffers of a side: those of the direction that begins at it, and of the one that ends there
abbrev pub lengths_of : Links → SideId → Lengths
lengths_of k e =
    let own = (lane_at k e).buffers in
    let other = (lane_at k (peer e)).buffers in
    record {
      raw_input = length own.raw_input;
      input = length own.input;
      output = length other.output;
      raw_output = length other.raw_output;
    }
