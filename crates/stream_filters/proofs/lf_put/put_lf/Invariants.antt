use Rattle.std.proofs.Common.{◌≡◌, ◌-◌, ◌%◌, ◌<◌, ◌≤◌, ◌++◌, length, drop, vec_capacity}
use Rattle.filter_model.specs.Filter.{to_lf}
use Rattle.stream_filters.proofs.lf_put.put_lf.Given as goal

abbrev pub invariant-loop-at : goal.invariant-loop-at
invariant-loop-at l = record {
  sixteens : l.at % 16 ≡ 0;
  within : l.at < length l.src;
  block : length l.block ≡ 520;
  items : l.dst.items ++ to_lf (drop l.at l.src) ≡ l.initial.dst.items ++ to_lf l.src;
  capacity : vec_capacity l.initial.dst ≤ vec_capacity l.dst;
}

abbrev pub decreases-loop-at : goal.decreases-loop-at
decreases-loop-at l = length l.src - l.at
