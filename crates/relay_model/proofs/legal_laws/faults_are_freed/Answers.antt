use Rattle.relay_model.proofs.CauseLemmas.{faults_are_freed}
use Rattle.relay_model.proofs.legal_laws.faults_are_freed.Goals as goal

pub returns : goal.returns
returns c = faults_are_freed
