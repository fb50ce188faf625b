use Rattle.std.proofs.Common.{◌≡◌, ◌≤◌, ◌*◌, ◌-◌, length, take}
use Rattle.filter_model.specs.Filter.{hex_out}
use Rattle.stream_filters.proofs.hex_lanes.write_by_lanes.Given as goal

abbrev pub invariant-loop-at : goal.invariant-loop-at
invariant-loop-at l = record {
  within : l.at ≤ length l.bytes;
  written : take (2 * l.at) l.block ≡ hex_out (take l.at l.bytes);
  places : length l.block ≡ 2 * length l.bytes;
}

abbrev pub decreases-loop-at : goal.decreases-loop-at
decreases-loop-at l = length l.bytes - l.at
