use Rattle.relay_model.proofs.CauseLemmas.{frees_have_causes}
use Rattle.relay_model.proofs.legal_laws.frees_have_causes.Goals as goal

pub returns : goal.returns
returns c = frees_have_causes
