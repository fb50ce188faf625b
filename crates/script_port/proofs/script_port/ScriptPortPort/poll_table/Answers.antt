use Rattle.std.proofs.Common.{ap, ◌∙◌, sym, refl}
use Rattle.ev_port.specs.Table.{named}
use Rattle.script_port.specs.ScriptState.{PortState}
use Rattle.script_port.specs.ScriptLinks.{after_wants}
use Rattle.script_port.specs.ScriptPort.{poll_marks}
use Rattle.script_port.proofs.PollLemmas.{poll_went, polled_all, polled_many}
use Rattle.script_port.proofs.FaultLemmas.{poll_counted}
use Rattle.script_port.proofs.ScriptVouchLemmas.{call_vouched, poll_stood}
use Rattle.script_port.proofs.ScriptWaitingLemmas.{nothing_waits, none_at_poll, waiting-wants}
use Rattle.script_port.proofs.script_port.ScriptPortPort.poll_table.Goals as goal

pub returns-clause-cause : goal.returns-clause-cause
returns-clause-cause c =
    let p = c.args.self.now in
    poll_counted p _ (poll_marks p.links (named c.args.wants.now)) c.args.accept c.args.timeout _ c.answer_table.ensures.after
    c.answer_table.ensures.answer

pub returns-clause-went : goal.returns-clause-went
returns-clause-went c =
    let p = c.args.self.now in
    let wants = named c.args.wants.now in
    let marks = poll_marks p.links wants in
    record {
      marked = marks;
      marks = polled_all p.links wants;
      many = polled_many p.links wants;
      list = c.answer_table.ensures.list;
      ends = rw c.answer_table.ensures.after (poll_went p wants marks c.args.accept _ refl c.answer_table.ensures.answer);
      vouched =
          call_vouched p _ (record p { links = after_wants marks p.links; tally = c.answer_table.new.self.tally }) _ _
          (c.answer_table.ensures.after ∙ ap (λ t. record p { links = after_wants marks p.links; tally = t })
          (sym (ap (λ (q : PortState). q.tally) c.answer_table.ensures.after))) refl refl
          (poll_stood p wants marks c.answer_table.new.self.tally c.args.accept c.args.timeout _ refl c.answer_table.ensures.answer);
    }

pub returns-clause-waiting : goal.returns-clause-waiting
returns-clause-waiting c = λ asked none.
    let p = c.args.self.now in
    let empty = none_at_poll p c.args.accept asked (sym c.answer_table.ensures.answer ∙ none) in
    nothing_waits _ (ap (λ (q : PortState). q.links.waiting) c.answer_table.ensures.after
    ∙ waiting-wants (poll_marks p.links (named c.args.wants.now)) p.links ∙ empty)
