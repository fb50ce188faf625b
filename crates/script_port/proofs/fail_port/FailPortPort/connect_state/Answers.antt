use Rattle.std.proofs.Common.{refl, sym, ◌∙◌}
use Rattle.script_port.specs.declared.fail_port.PortCall.TheVariants.{ConnectState}
use Rattle.script_port.specs.FailedCalls.{failed_check}
use Rattle.script_port.proofs.CallLemmas.{failed_check_ends}
use Rattle.script_port.proofs.FailLemmas.{end_failing}
use Rattle.script_port.proofs.fail_port.FailPortPort.connect_state.Goals as goal

pub returns-then-is_failing-clause-cause : goal.returns-then-is_failing-clause-cause
returns-then-is_failing-clause-cause c =
    rw c.fail_check.ensures (end_failing c.args.self.now ConnectState c.args.end failed_check
    (sym c.is_failing.ensures ∙ c.if-is_failing.true) (λ s. refl))

pub returns-then-is_failing-clause-ends : goal.returns-then-is_failing-clause-ends
returns-then-is_failing-clause-ends c = rw c.fail_check.ensures (failed_check_ends c.args.self.now.inner.links c.args.end)
