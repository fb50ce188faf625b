use Rattle.relay_model.proofs.QuietLemmas.{time_rises}
use Rattle.relay_model.proofs.legal_laws.time_rises.Goals as goal

pub returns : goal.returns
returns c = time_rises
