use Rattle.std.proofs.Common.{◌≡◌, length}
use Rattle.buffers_mode.specs.Run.{reports_after, after_reports_run}
use Rattle.buffers_mode.proofs.TellLemmas.{left_reports}
use Rattle.buffers_mode.proofs.player.Player.report.Given as goal

abbrev pub invariant-loop-b : goal.invariant-loop-b
invariant-loop-b l = record {
  -- the run so far, with what is left to report, is the run at the end
  left : left_reports (reports_after l.self.deferred l.line) l.self l.b ≡ after_reports_run l.line l.fn.self;
  deferred : l.self.deferred ≡ l.fn.self.deferred;
  count : length l.self.buffers ≡ 16;
  ends : l.b-end ≡ 16;
}
