use Rattle.std.proofs.Common.{◌≡◌, ◌<◌, ◌^◌, take}
use Rattle.std.specs.Prelude.{fold}
use Rattle.sum_scribe.specs.Sums.{next_sum}
use Rattle.sum_scribe.proofs.add.sum_after.Given as goal

-- the sum goes as far as the bytes that were looked at
abbrev pub invariant-loop-byte : goal.invariant-loop-byte
invariant-loop-byte l = record {
  summed : l.sum ≡ fold next_sum l.before (take l.byte-index l.bytes);
  small : l.sum < 2 ^ 32;
}
