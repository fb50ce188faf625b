use Rattle.relay_model.proofs.LeftSteps.{nothing_is_left}
use Rattle.relay_model.proofs.legal_laws.nothing_is_left.Goals as goal

pub returns : goal.returns
returns c = nothing_is_left
