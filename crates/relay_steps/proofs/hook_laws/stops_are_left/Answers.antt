use Rattle.relay_steps.proofs.DispatchSteps.{stops_are_left}
use Rattle.relay_steps.proofs.hook_laws.stops_are_left.Goals as goal

pub returns : goal.returns
returns c = stops_are_left
