use Rattle.relay_model.proofs.RatesLaw.{rates-are_told}
use Rattle.relay_model.proofs.turn_laws.trace_tells_rates.Goals as goal

pub returns : goal.returns
returns c = rates-are_told
