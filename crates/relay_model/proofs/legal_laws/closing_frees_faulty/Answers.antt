use Rattle.relay_model.proofs.ClosingLemmas.{closing_frees_faulty}
use Rattle.relay_model.proofs.legal_laws.closing_frees_faulty.Goals as goal

pub returns : goal.returns
returns c = closing_frees_faulty
