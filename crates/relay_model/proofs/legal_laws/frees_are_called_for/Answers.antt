use Rattle.relay_model.proofs.CalledLemmas.{frees_are_called_for}
use Rattle.relay_model.proofs.legal_laws.frees_are_called_for.Goals as goal

pub returns : goal.returns
returns c = frees_are_called_for
