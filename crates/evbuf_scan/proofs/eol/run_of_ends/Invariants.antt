use Rattle.std.proofs.Common.{◌≡◌, ◌+◌, drop}
use Rattle.evbuf_scan.specs.Ends.{run_length}
use Rattle.evbuf_scan.proofs.eol.run_of_ends.Given as goal

abbrev pub invariant-loop-i : goal.invariant-loop-i
invariant-loop-i l = l.i + run_length (drop l.i l.bytes) ≡ run_length l.bytes
