use Rattle.relay_model.proofs.CalledLemmas.{failed_are_freed_so}
use Rattle.relay_model.proofs.legal_laws.failed_are_freed_so.Goals as goal

pub returns : goal.returns
returns c = failed_are_freed_so
