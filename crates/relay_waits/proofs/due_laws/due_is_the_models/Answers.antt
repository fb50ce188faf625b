use Rattle.relay_waits.proofs.DueLemmas.{due-is_the_models}
use Rattle.relay_waits.proofs.due_laws.due_is_the_models.Goals as goal

pub returns : goal.returns
returns c = due-is_the_models
