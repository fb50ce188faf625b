use Rattle.relay_model.proofs.SideDebtLemmas.{sides_come_back}
use Rattle.relay_model.proofs.refill_laws.sides_come_back.Goals as goal

pub returns : goal.returns
returns c = sides_come_back
