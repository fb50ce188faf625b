use Rattle.relay_model.proofs.CalledLemmas.{faults_are_answered}
use Rattle.relay_model.proofs.legal_laws.faults_are_answered.Goals as goal

pub returns : goal.returns
returns c = faults_are_answered
