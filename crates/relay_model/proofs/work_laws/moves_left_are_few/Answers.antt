use Rattle.relay_model.proofs.MeasureLemmas.{moves_left_are_few}
use Rattle.relay_model.proofs.work_laws.moves_left_are_few.Goals as goal

pub returns : goal.returns
returns c = moves_left_are_few
