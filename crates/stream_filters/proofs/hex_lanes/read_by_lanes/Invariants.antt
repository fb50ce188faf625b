use Rattle.std.proofs.Common.{◌≡◌, ◌≤◌, ◌*◌, ◌-◌, true, length, take}
use Rattle.std.specs.Prelude.{nat_lt}
use Rattle.std.specs.List.{list_all}
use Rattle.filter_model.specs.Filter.{hex_in, is_hex}
use Rattle.stream_filters.proofs.hex_lanes.read_by_lanes.Given as goal

abbrev pub invariant-loop-block : goal.invariant-loop-block
invariant-loop-block l = record {
  within : l.at ≤ length l.block;
  digits : list_all (λ x. nat_lt x 16) l.worst ≡ list_all is_hex (take (2 * l.at) l.digits);
  spelled : list_all is_hex (take (2 * l.at) l.digits) ≡ true → take l.at l.block ≡ hex_in (take (2 * l.at) l.digits);
  places : length l.digits ≡ 2 * length l.block;
}

abbrev pub decreases-loop-block : goal.decreases-loop-block
decreases-loop-block l = length l.block - l.at
