use Rattle.relay_model.proofs.StandsLemmas.{nothing_stands}
use Rattle.relay_model.proofs.played_laws.nothing_stands.Goals as goal

pub returns : goal.returns
returns c = nothing_stands
