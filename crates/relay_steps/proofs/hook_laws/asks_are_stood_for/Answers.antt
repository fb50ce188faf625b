use Rattle.relay_steps.proofs.FireSteps.{asks_are_stood_for}
use Rattle.relay_steps.proofs.hook_laws.asks_are_stood_for.Goals as goal

pub returns : goal.returns
returns c = asks_are_stood_for
