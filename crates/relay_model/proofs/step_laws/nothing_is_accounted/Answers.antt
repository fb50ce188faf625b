use Rattle.relay_model.proofs.AccountedLemmas.{nothing_is_accounted}
use Rattle.relay_model.proofs.step_laws.nothing_is_accounted.Goals as goal

pub returns : goal.returns
returns c = nothing_is_accounted
