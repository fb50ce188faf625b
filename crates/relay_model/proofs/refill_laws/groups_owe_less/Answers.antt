use Rattle.relay_model.proofs.GroupDebtLemmas.{groups_owe_less}
use Rattle.relay_model.proofs.refill_laws.groups_owe_less.Goals as goal

pub returns : goal.returns
returns c = groups_owe_less
