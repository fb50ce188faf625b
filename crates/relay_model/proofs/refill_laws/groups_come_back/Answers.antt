use Rattle.relay_model.proofs.GroupDebtLemmas.{groups_come_back}
use Rattle.relay_model.proofs.refill_laws.groups_come_back.Goals as goal

pub returns : goal.returns
returns c = groups_come_back
