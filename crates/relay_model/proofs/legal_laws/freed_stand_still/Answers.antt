use Rattle.relay_model.proofs.StillLemmas.{freed_stand_still}
use Rattle.relay_model.proofs.legal_laws.freed_stand_still.Goals as goal

pub returns : goal.returns
returns c = freed_stand_still
