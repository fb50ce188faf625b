use Rattle.relay_model.proofs.WorkLemmas.{work_falls}
use Rattle.relay_model.proofs.work_laws.work_falls.Goals as goal

pub returns : goal.returns
returns c = work_falls
