use Rattle.std.proofs.Common.{◌≡◌, ◌+◌, ◌*◌, ◌-◌, ◌≤◌, ◌++◌, length, take, vec_len, vec_capacity}
use Rattle.filter_model.specs.Filter.{hex_out}
use Rattle.stream_filters.proofs.hex_parts.put_digits.Given as goal

abbrev pub invariant-loop-at : goal.invariant-loop-at
invariant-loop-at l = record {
  items : l.dst.items ≡ l.initial.dst.items ++ hex_out (take l.at l.bytes);
  len : vec_len l.dst ≡ vec_len l.initial.dst + 2 * l.at;
  capacity : vec_capacity l.initial.dst ≤ vec_capacity l.dst;
  within : l.at ≤ length l.bytes;
  block : length l.block ≡ 256;
}

abbrev pub decreases-loop-at : goal.decreases-loop-at
decreases-loop-at l = length l.bytes - l.at
