use Rattle.relay_waits.proofs.DueLemmas.{reasons-join}
use Rattle.relay_waits.proofs.due_laws.reasons_join.Goals as goal

pub returns : goal.returns
returns c = reasons-join
