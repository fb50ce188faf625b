use Rattle.relay_steps.proofs.FireSteps.{fires_are_stood_for}
use Rattle.relay_steps.proofs.hook_laws.fires_are_stood_for.Goals as goal

pub returns : goal.returns
returns c = fires_are_stood_for
