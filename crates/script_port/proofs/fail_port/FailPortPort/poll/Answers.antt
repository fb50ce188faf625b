use Rattle.std.proofs.Common.{sym, ◌∙◌}
use Rattle.script_port.specs.declared.fail_port.PortCall.TheVariants.{Poll}
use Rattle.script_port.proofs.PollLemmas.{failed_poll_ends}
use Rattle.script_port.proofs.FailLemmas.{poll_failing}
use Rattle.script_port.proofs.fail_port.FailPortPort.poll.Goals as goal

pub returns-then-is_failing-clause-cause : goal.returns-then-is_failing-clause-cause
returns-then-is_failing-clause-cause c =
    rw c.fail_poll.ensures.after (poll_failing c.args.self.now Poll c.fail_poll.new.wants c.args.accept c.args.timeout
    (sym c.is_failing.ensures ∙ c.if-is_failing.true))

pub returns-then-is_failing-clause-ends : goal.returns-then-is_failing-clause-ends
returns-then-is_failing-clause-ends c = rw (c.fail_poll.ensures.after, c.fail_poll.ensures.marks)
    (failed_poll_ends c.args.wants.now c.args.self.now.inner.links)
