use Rattle.relay_model.proofs.NextLemmas.{asked_frees_are_next}
use Rattle.relay_model.proofs.legal_laws.asked_frees_are_next.Goals as goal

pub returns : goal.returns
returns c = asked_frees_are_next
