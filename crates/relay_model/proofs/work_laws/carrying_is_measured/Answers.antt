use Rattle.relay_model.proofs.MovesLemmas.{carrying_is_measured}
use Rattle.relay_model.proofs.work_laws.carrying_is_measured.Goals as goal

pub returns : goal.returns
returns c = carrying_is_measured
