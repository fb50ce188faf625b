use Rattle.std.proofs.Common.{length, refl, sym, ◌∙◌}
use Rattle.script_port.specs.declared.fail_port.PortCall.TheVariants.{Read}
use Rattle.script_port.specs.FailedCalls.{failed_read}
use Rattle.script_port.proofs.CallLemmas.{failed_read_ends}
use Rattle.script_port.proofs.FailLemmas.{end_failing, end_passed}
use Rattle.script_port.proofs.fail_port.FailPortPort.read.Goals as goal

pub returns-then-is_failing-clause-cause : goal.returns-then-is_failing-clause-cause
returns-then-is_failing-clause-cause c =
    rw c.fail_read.ensures (end_failing c.args.self.now Read c.args.end (failed_read (length c.args.into.now))
    (sym c.is_failing.ensures ∙ c.if-is_failing.true) (λ s. refl))

pub returns-then-is_failing-clause-ends : goal.returns-then-is_failing-clause-ends
returns-then-is_failing-clause-ends c = rw c.fail_read.ensures (failed_read_ends c.args.self.now.inner.links c.args.end
    c.args.into.now (length c.args.into.now) refl)

pub returns-clause-cause : goal.returns-clause-cause
returns-clause-cause c = end_passed c.args.self.now Read c.count.new.self c.read.new.self c.args.end _ c.count.ensures c.read.ensures.cause
