use Rattle.std.proofs.Common.{◌≡◌, ◌-◌, ◌%◌, ◌<◌, ◌≤◌, ◌++◌, length, take, drop, vec_capacity}
use Rattle.std.specs.Prelude.{slice_index}
use Rattle.filter_model.specs.Filter.{crlf_after}
use Rattle.stream_filters.proofs.crlf_put.put_behind_first.Given as goal

abbrev pub invariant-loop-at : goal.invariant-loop-at
invariant-loop-at l = record {
  sixteens : l.at % 16 ≡ 0;
  within : l.at < length l.src;
  block : length l.block ≡ 1024;
  items : l.dst.items ≡ l.initial.dst.items ++ crlf_after (slice_index l.src 0) (take l.at (drop 1 l.src));
  capacity : vec_capacity l.initial.dst ≤ vec_capacity l.dst;
}

abbrev pub decreases-loop-at : goal.decreases-loop-at
decreases-loop-at l = length l.src - l.at
