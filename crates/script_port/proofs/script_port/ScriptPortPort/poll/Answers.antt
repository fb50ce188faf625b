use Rattle.std.proofs.Common.{ap, ◌∙◌, sym, refl}
use Rattle.script_port.specs.ScriptState.{PortState}
use Rattle.script_port.specs.ScriptLinks.{after_wants}
use Rattle.script_port.proofs.PollLemmas.{poll_went}
use Rattle.script_port.proofs.FaultLemmas.{poll_counted}
use Rattle.script_port.proofs.ScriptVouchLemmas.{call_vouched, poll_stood}
use Rattle.script_port.proofs.ScriptWaitingLemmas.{nothing_waits, none_at_poll, waiting-wants}
use Rattle.script_port.proofs.script_port.ScriptPortPort.poll.Goals as goal

pub returns-clause-cause : goal.returns-clause-cause
returns-clause-cause c =
    poll_counted c.args.self.now _ c.answer_poll.new.wants c.args.accept c.args.timeout _ c.answer_poll.ensures.after
    c.answer_poll.ensures.answer

pub returns-clause-ends : goal.returns-clause-ends
returns-clause-ends c =
    rw c.answer_poll.ensures.after
    (poll_went c.args.self.now c.args.wants.now c.answer_poll.new.wants c.args.accept _ c.answer_poll.ensures.marks
    c.answer_poll.ensures.answer)

pub returns-clause-vouched : goal.returns-clause-vouched
returns-clause-vouched c =
    let p = c.args.self.now in
    let wants = c.answer_poll.new.wants in
    call_vouched p _ (record p { links = after_wants wants p.links; tally = c.answer_poll.new.self.tally }) _ _
    (c.answer_poll.ensures.after ∙ ap (λ t. record p { links = after_wants wants p.links; tally = t })
    (sym (ap (λ (q : PortState). q.tally) c.answer_poll.ensures.after))) refl refl
    (poll_stood p c.args.wants.now wants c.answer_poll.new.self.tally c.args.accept c.args.timeout _ c.answer_poll.ensures.marks
    c.answer_poll.ensures.answer)

pub returns-clause-waiting : goal.returns-clause-waiting
returns-clause-waiting c = λ asked none.
    let p = c.args.self.now in
    let empty = none_at_poll p c.args.accept asked (sym c.answer_poll.ensures.answer ∙ none) in
    nothing_waits _ (ap (λ (q : PortState). q.links.waiting) c.answer_poll.ensures.after ∙ waiting-wants c.answer_poll.new.wants
    p.links ∙ empty)
