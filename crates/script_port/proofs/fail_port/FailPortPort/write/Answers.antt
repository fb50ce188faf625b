use Rattle.std.proofs.Common.{length, refl, sym, ◌∙◌}
use Rattle.script_port.specs.declared.fail_port.PortCall.TheVariants.{Write}
use Rattle.script_port.specs.FailedCalls.{failed_write}
use Rattle.script_port.proofs.CallLemmas.{failed_write_ends}
use Rattle.script_port.proofs.FailLemmas.{end_failing}
use Rattle.script_port.proofs.fail_port.FailPortPort.write.Goals as goal

pub returns-then-is_failing-clause-cause : goal.returns-then-is_failing-clause-cause
returns-then-is_failing-clause-cause c =
    rw c.fail_write.ensures (end_failing c.args.self.now Write c.args.end (failed_write (length c.args.from.now))
    (sym c.is_failing.ensures ∙ c.if-is_failing.true) (λ s. refl))

pub returns-then-is_failing-clause-ends : goal.returns-then-is_failing-clause-ends
returns-then-is_failing-clause-ends c = rw c.fail_write.ensures (failed_write_ends c.args.self.now.inner.links c.args.end c.args.from.now)
