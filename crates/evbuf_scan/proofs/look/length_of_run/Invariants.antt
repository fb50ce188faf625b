use Rattle.std.proofs.Common.{◌≡◌, ◌≤◌, ◌+◌, ◌-◌, length, drop}
use Rattle.evbuf_scan.specs.Ends.{run_length}
use Rattle.evbuf_scan.proofs.look.length_of_run.Given as goal

abbrev pub invariant-loop-at : goal.invariant-loop-at
invariant-loop-at l = record {
  past : l.place ≤ l.at;
  within : l.at ≤ length l.buf.bytes;
  -- what was counted and what is left to count
  counted : l.at - l.place + run_length (drop l.at l.buf.bytes) ≡ run_length (drop l.place l.buf.bytes);
}

abbrev pub decreases-loop-at : goal.decreases-loop-at
decreases-loop-at l = length l.buf.bytes - l.at
