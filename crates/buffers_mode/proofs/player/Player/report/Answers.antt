use Rattle.std.proofs.Common.{◌≡◌, ◌<◌, ◌+◌, true, false, length, arith, ap, sym, ◌∙◌, length-set}
use Rattle.buffers_mode.specs.Run.{Run, reports_after, reported_by}
use Rattle.buffers_mode.proofs.TellLemmas.{left_reports, left_reports-told, left_reports-silent}
use Rattle.buffers_mode.proofs.player.Player.report.Goals as goal
use Rattle.buffers_mode.proofs.player.Player.report.Goals.{then-reports_after+in_ok-report_buffer, else-reports_after}

pub loop-b-preserved : goal.loop-b-preserved
loop-b-preserved c =
    let run = c.loop-b.self in
    let b = c.loop-b.b in
    let there : b < length run.buffers = omega (arith, c.loop-b.invariant.count, c.loop-b.invariant.ends, c.loop-b-test.true) in
    elim c.if-reports_after.branch [
      | then-reports_after+in_ok-report_buffer w ↦
          let told : c.if-reports_after.self ≡ reported_by b run = w.self-is ∙ w.in_ok-report_buffer.ensures in
          let tells : reports_after run.deferred c.args.line.now b ≡ true = sym c.reports_after.ensures ∙ w.if-reports_after.true in
          record {
            left = ap (λ (r : Run). left_reports (reports_after r.deferred c.args.line.now) r (b + 1)) told
                ∙ left_reports-told (reports_after run.deferred c.args.line.now) run b there tells ∙ c.loop-b.invariant.left;
            deferred = ap (λ (r : Run). r.deferred) told ∙ c.loop-b.invariant.deferred;
            count = ap (λ (r : Run). length r.buffers) told ∙ length-set run.buffers b _ ∙ c.loop-b.invariant.count;
            ends = c.loop-b.invariant.ends;
          }
      | else-reports_after w ↦
          let silent : reports_after run.deferred c.args.line.now b ≡ false = sym c.reports_after.ensures ∙ w.if-reports_after.false in
          record {
            left = ap (λ (r : Run). left_reports (reports_after r.deferred c.args.line.now) r (b + 1)) w.self-is
                ∙ left_reports-silent (reports_after run.deferred c.args.line.now) run b there silent ∙ c.loop-b.invariant.left;
            deferred = ap (λ (r : Run). r.deferred) w.self-is ∙ c.loop-b.invariant.deferred;
            count = ap (λ (r : Run). length r.buffers) w.self-is ∙ c.loop-b.invariant.count;
            ends = c.loop-b.invariant.ends;
          }
    ]
