use Rattle.std.proofs.Common.{◌≡◌, ◌<◌, ◌^◌}
use Rattle.big_script.specs.Generated.{generated, number_after}
use Rattle.big_script.proofs.generator.take_bytes.Given as goal

-- so many steps were made
abbrev pub invariant-loop-i : goal.invariant-loop-i
invariant-loop-i l = record {
  bytes : l.bytes.items ≡ generated l.i l.from;
  number : l.x ≡ number_after l.i l.from;
  small : l.x < 2 ^ 32;
}
