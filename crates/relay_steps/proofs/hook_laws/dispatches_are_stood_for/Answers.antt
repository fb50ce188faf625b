use Rattle.relay_steps.proofs.DispatchSteps.{dispatches_are_stood_for}
use Rattle.relay_steps.proofs.hook_laws.dispatches_are_stood_for.Goals as goal

pub returns : goal.returns
returns c = dispatches_are_stood_for
