use Rattle.drain_laws.proofs.DrainedLemmas.{drained_links_are_done}
use Rattle.drain_laws.proofs.FreeCauseLemmas.{frees_are_of_done}
use Rattle.drain_laws.proofs.BufferedLemmas.{most_is_bounded}
use Rattle.drain_laws.proofs.FewTurnLemmas.{closing_turns_are_few}
use Rattle.drain_laws.proofs.drained_links_are_done.Goals as goal

pub returns : goal.returns
returns c = drained_links_are_done frees_are_of_done most_is_bounded (closing_turns_are_few frees_are_of_done)
