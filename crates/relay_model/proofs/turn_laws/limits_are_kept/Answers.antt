use Rattle.relay_model.proofs.GroupBound.{rates-are_kept}
use Rattle.relay_model.proofs.turn_laws.limits_are_kept.Goals as goal

pub returns : goal.returns
returns c = rates-are_kept
