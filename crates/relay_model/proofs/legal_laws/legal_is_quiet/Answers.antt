use Rattle.relay_model.proofs.QuietLemmas.{legal_is_quiet}
use Rattle.relay_model.proofs.legal_laws.legal_is_quiet.Goals as goal

pub returns : goal.returns
returns c = legal_is_quiet
