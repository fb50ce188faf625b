use Rattle.relay_model.proofs.OnwardLemmas.{faulty_are_freed}
use Rattle.relay_model.proofs.legal_laws.faulty_are_freed.Goals as goal

pub returns : goal.returns
returns c = faulty_are_freed
