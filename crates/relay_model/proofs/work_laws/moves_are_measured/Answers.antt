use Rattle.relay_model.proofs.MeasureLemmas.{moves_are_measured}
use Rattle.relay_model.proofs.work_laws.moves_are_measured.Goals as goal

pub returns : goal.returns
returns c = moves_are_measured
