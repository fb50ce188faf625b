use Rattle.std.proofs.Common.{◌≡◌, ◌*◌, true, length, take}
use Rattle.std.specs.Prelude.{nat_lt}
use Rattle.std.specs.List.{list_all}
use Rattle.filter_model.specs.Filter.{hex_in, is_hex}
use Rattle.stream_filters.proofs.hex_parts.read_digits.Given as goal

abbrev pub invariant-loop-at : goal.invariant-loop-at
invariant-loop-at l = record {
  digits : nat_lt l.worst 16 ≡ list_all is_hex (take (2 * l.at) l.digits);
  spelled : list_all is_hex (take (2 * l.at) l.digits) ≡ true → take l.at l.block ≡ hex_in (take (2 * l.at) l.digits);
  places : length l.digits ≡ 2 * length l.block;
}
