use Rattle.std.proofs.Common.{◌≡◌, ◌*◌, ◌-◌, ◌%◌, ◌<◌, ◌≤◌, length, take, drop}
use Rattle.std.specs.Prelude.{slice_index}
use Rattle.filter_model.specs.Filter.{crlf_after}
use Rattle.stream_filters.proofs.crlf_lanes.write_crlf.Given as goal

abbrev pub invariant-loop-at : goal.invariant-loop-at
invariant-loop-at l = record {
  sixteens : l.at % 16 ≡ 0;
  within : l.at < length l.src;
  short : l.end ≤ 2 * l.at;
  len : length l.block ≡ length l.initial.block;
  text : take l.end l.block ≡ crlf_after (slice_index l.src 0) (take l.at (drop 1 l.src));
}

abbrev pub decreases-loop-at : goal.decreases-loop-at
decreases-loop-at l = length l.src - l.at
