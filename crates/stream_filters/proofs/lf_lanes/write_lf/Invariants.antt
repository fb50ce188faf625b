use Rattle.std.proofs.Common.{◌≡◌, ◌+◌, ◌-◌, ◌%◌, ◌≤◌, ◌++◌, length, take, drop}
use Rattle.filter_model.specs.Filter.{to_lf}
use Rattle.stream_filters.proofs.lf_lanes.write_lf.Given as goal

abbrev pub invariant-loop-at : goal.invariant-loop-at
invariant-loop-at l = record {
  begun : l.from ≤ l.at;
  within : l.at ≤ l.to;
  sixteens : (l.to - l.at) % 16 ≡ 0;
  short : l.from + l.end ≤ l.at;
  len : length l.block ≡ length l.initial.block;
  text : take l.end l.block ++ to_lf (drop l.at l.src) ≡ to_lf (drop l.from l.src);
}

abbrev pub decreases-loop-at : goal.decreases-loop-at
decreases-loop-at l = l.to - l.at
