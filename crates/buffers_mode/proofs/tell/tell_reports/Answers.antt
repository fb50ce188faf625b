use Rattle.std.proofs.Common.{◌≡◌, ◌<◌, ◌++◌, ℕ, List, length, ap, sym, subst, ◌∙◌, append_assoc, append-nil}
use Rattle.std.specs.Prelude.{filter}
use Rattle.evbuf.specs.Evbuffered.{Evbuffered}
use Rattle.evbuf.specs.Callbacks.{Callbacks, waits, after_report}
use Rattle.script_text.specs.Lines.{line_of}
use Rattle.buffers_mode.specs.Answers.{report_words}
use Rattle.buffers_mode.specs.Steps.{with_callbacks}
use Rattle.buffers_mode.specs.Run.{report_lines, all_reported}
use Rattle.buffers_mode.proofs.ReportLemmas.{report_lines-made, all_reported-made, waiting-made, none_made, with_callbacks-again}
use Rattle.buffers_mode.proofs.tell.tell_reports.Goals as goal

pub loop-report-smaller : goal.loop-report-smaller
loop-report-smaller c =
    let left : c.take_report.new.self.callbacks ≡ after_report c.loop-report.buf.callbacks =
    ap (λ (buf : Evbuffered). buf.callbacks) c.take_report.ensures.after in
    subst (λ (cbs : Callbacks). length (filter waits cbs) < length (filter waits c.loop-report.buf.callbacks)) (sym left)
    (waiting-made c.loop-report.buf.callbacks c.in-Some.report c.in-Some.ensures.report)

pub loop-report-preserved : goal.loop-report-preserved
loop-report-preserved c =
    let cbs = c.loop-report.buf.callbacks in
    let left : c.take_report.new.self.callbacks ≡ after_report cbs = ap (λ (buf : Evbuffered). buf.callbacks) c.take_report.ensures.after in
    let line = line_of (report_words c.args.b c.in-Some.report) in
    let written : c.extend_from_slice.new.self.items ≡ c.loop-report.into.items ++ line =
    c.in_ok-extend_from_slice.ensures.items
    ∙ ap (λ (more : List ℕ). c.loop-report.into.items ++ more) (c.as_bytes.ensures.value ∙ c.in_ok-line.ensures) in
    record {
      text = rw (written, left) (append_assoc c.loop-report.into.items line (report_lines c.args.b (after_report cbs))
          ∙ ap (λ (more : List ℕ). c.loop-report.into.items ++ more)
          (sym (report_lines-made c.args.b cbs c.in-Some.report c.in-Some.ensures.report))
          ∙ c.loop-report.invariant.text);
      reported = ap all_reported left ∙ all_reported-made cbs c.in-Some.report c.in-Some.ensures.report ∙ c.loop-report.invariant.reported;
      rest = with_callbacks-again c.args.buf.now c.loop-report.buf c.take_report.new.self
          (after_report cbs) c.take_report.ensures.after c.loop-report.invariant.rest;
    }

pub returns-clause-text : goal.returns-clause-text
returns-clause-text c =
    let none = none_made c.args.b c.loop-report.buf.callbacks c.in_default.ensures.report in
    sym (append-nil c.loop-report.into.items) ∙ ap (λ (more : List ℕ). c.loop-report.into.items ++ more) (sym none.0)
    ∙ c.loop-report.invariant.text

pub returns-clause-after : goal.returns-clause-after
returns-clause-after c =
    let cbs = c.loop-report.buf.callbacks in
    let none = none_made c.args.b cbs c.in_default.ensures.report in
    let left : c.take_report.new.self.callbacks ≡ after_report cbs = ap (λ (buf : Evbuffered). buf.callbacks) c.take_report.ensures.after in
    with_callbacks-again c.args.buf.now c.loop-report.buf c.take_report.new.self
    (after_report cbs) c.take_report.ensures.after c.loop-report.invariant.rest
    ∙ ap (with_callbacks c.args.buf.now) (left ∙ none.1 ∙ sym none.2 ∙ c.loop-report.invariant.reported)
