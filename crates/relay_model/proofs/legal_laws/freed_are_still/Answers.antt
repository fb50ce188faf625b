use Rattle.relay_model.proofs.StillLemmas.{freed_are_still}
use Rattle.relay_model.proofs.legal_laws.freed_are_still.Goals as goal

pub returns : goal.returns
returns c = freed_are_still
