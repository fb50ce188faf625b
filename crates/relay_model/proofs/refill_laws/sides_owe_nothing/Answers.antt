use Rattle.relay_model.proofs.SideDebtLemmas.{sides_owe_nothing}
use Rattle.relay_model.proofs.refill_laws.sides_owe_nothing.Goals as goal

pub returns : goal.returns
returns c = sides_owe_nothing
