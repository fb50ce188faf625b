use Rattle.relay_model.proofs.DrainLemmas.{drains_in_most}
use Rattle.relay_model.proofs.closing_laws.drains_in_most.Goals as goal

pub returns : goal.returns
returns c = drains_in_most
