use Rattle.relay_steps.proofs.HookedSteps.{waits_are_hooked}
use Rattle.relay_steps.proofs.hook_laws.waits_are_hooked.Goals as goal

pub returns : goal.returns
returns c = waits_are_hooked
