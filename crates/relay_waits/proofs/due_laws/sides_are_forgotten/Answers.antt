use Rattle.relay_waits.proofs.DueLemmas.{sides-are_forgotten}
use Rattle.relay_waits.proofs.due_laws.sides_are_forgotten.Goals as goal

pub returns : goal.returns
returns c = sides-are_forgotten
