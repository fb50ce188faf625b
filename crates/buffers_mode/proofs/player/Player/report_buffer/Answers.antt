use Rattle.std.proofs.Common.{◌++◌, ap, ◌∙◌}
use Rattle.evbuf.specs.Evbuffered.{Evbuffered}
use Rattle.buffers_mode.specs.Steps.{with_callbacks}
use Rattle.buffers_mode.specs.Run.{reported_by, report_lines, all_reported}
use Rattle.buffers_mode.proofs.RunLemmas.{OnOk-both, reported_by-shown}
use Rattle.buffers_mode.proofs.player.Player.report_buffer.Goals as goal

pub returns : goal.returns
returns c =
    OnOk-both c.tell_reports.result c.tell_reports.ensures.text c.tell_reports.ensures.after
    (λ text after.
    reported_by-shown c.self.inside.buffers c.self.inside.deferred c.self.inside.text.items c.tell_reports.new.into.items c.args.b
    c.tell_reports.new.buf
    (text ∙ ap (λ (buf : Evbuffered). c.self.inside.text.items ++ report_lines c.args.b buf.callbacks) c.at.ensures.buffer)
    (after ∙ ap (λ (buf : Evbuffered). with_callbacks buf (all_reported buf.callbacks)) c.at.ensures.buffer)
    ∙ ap (reported_by c.args.b) c.self.view_is)
