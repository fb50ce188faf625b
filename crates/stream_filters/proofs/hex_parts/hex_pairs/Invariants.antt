use Rattle.std.proofs.Common.{◌≤◌, ◌-◌, length, vec_capacity}
use Rattle.stream_filters.specs.Parts.{ReadsPairs}
use Rattle.stream_filters.proofs.hex_parts.hex_pairs.Given as goal

abbrev pub invariant-loop-at : goal.invariant-loop-at
invariant-loop-at l = record {
  pairs : ReadsPairs l.limit l.src l.fn.dst.items l.dst.items l.at;
  capacity : vec_capacity l.fn.dst ≤ vec_capacity l.dst;
}

abbrev pub decreases-loop-at : goal.decreases-loop-at
decreases-loop-at l = length l.src - l.at
