use Rattle.std.proofs.Common.{◌≡◌, ◌*◌, length, take}
use Rattle.filter_model.specs.Filter.{hex_out}
use Rattle.stream_filters.proofs.hex_parts.write_digits.Given as goal

abbrev pub invariant-loop-at : goal.invariant-loop-at
invariant-loop-at l = record {
  written : take (2 * l.at) l.block ≡ hex_out (take l.at l.bytes);
  places : length l.block ≡ 2 * length l.bytes;
}
