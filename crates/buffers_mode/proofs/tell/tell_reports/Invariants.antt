use Rattle.std.proofs.Common.{◌≡◌, ◌++◌, length}
use Rattle.std.specs.Prelude.{filter}
use Rattle.evbuf.specs.Callbacks.{waits}
use Rattle.buffers_mode.specs.Steps.{with_callbacks}
use Rattle.buffers_mode.specs.Run.{report_lines, all_reported}
use Rattle.buffers_mode.proofs.tell.tell_reports.Given as goal

abbrev pub invariant-loop-report : goal.invariant-loop-report
invariant-loop-report l = record {
  -- what is written and what still waits
  text : l.into.items ++ report_lines l.b l.buf.callbacks ≡ l.fn.into.items ++ report_lines l.b l.fn.buf.callbacks;
  reported : all_reported l.buf.callbacks ≡ all_reported l.fn.buf.callbacks;
  rest : l.buf ≡ with_callbacks l.fn.buf l.buf.callbacks;
}

abbrev pub decreases-loop-report : goal.decreases-loop-report
decreases-loop-report l = length (filter waits l.buf.callbacks)
