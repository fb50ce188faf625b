use Rattle.relay_model.proofs.FirstMet.{places_are_first}
use Rattle.relay_model.proofs.legal_laws.places_are_first.Goals as goal

pub returns : goal.returns
returns c = places_are_first
