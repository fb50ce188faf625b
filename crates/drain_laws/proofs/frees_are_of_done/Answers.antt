use Rattle.drain_laws.proofs.FreeCauseLemmas.{frees_are_of_done}
use Rattle.drain_laws.proofs.frees_are_of_done.Goals as goal

pub returns : goal.returns
returns c = frees_are_of_done
