use Rattle.std.proofs.Common.{◌≡◌, ◌≤◌, ◌<◌, ◌+◌, ◌-◌, ◌++◌, ℕ, length, take, vec_len, vec_capacity}
use Rattle.std.specs.List.{flat_map}
use Rattle.library_uses.specs.NoZeros.{but_zero}
use Rattle.library_uses.proofs.own_filter.keep.Given as goal

abbrev pub invariant-loop-at : goal.invariant-loop-at
invariant-loop-at l = record {
  items : l.dst.items ≡ l.initial.dst.items ++ flat_map but_zero (take l.at l.src);
  room : vec_len l.dst + (length l.src - l.at) ≤ vec_capacity l.dst;
  below : (count : ℕ) → count < l.at → length l.initial.dst.items + length (flat_map but_zero (take count l.src)) < l.limit;
  within : l.at ≤ length l.src;
}

abbrev pub decreases-loop-at : goal.decreases-loop-at
decreases-loop-at l = length l.src - l.at
