use Rattle.drain_laws.proofs.FreeCauseLemmas.{frees_are_of_done}
use Rattle.drain_laws.proofs.FewTurnLemmas.{closing_turns_are_few}
use Rattle.drain_laws.proofs.closing_turns_are_few.Goals as goal

pub returns : goal.returns
returns c = closing_turns_are_few frees_are_of_done
