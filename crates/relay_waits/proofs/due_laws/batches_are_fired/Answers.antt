use Rattle.relay_waits.proofs.DueLemmas.{batches-are_fired}
use Rattle.relay_waits.proofs.due_laws.batches_are_fired.Goals as goal

pub returns : goal.returns
returns c = batches-are_fired
