use Rattle.relay_model.proofs.QuietLemmas.{state_is_told}
use Rattle.relay_model.proofs.legal_laws.state_is_told.Goals as goal

pub returns : goal.returns
returns c = state_is_told
