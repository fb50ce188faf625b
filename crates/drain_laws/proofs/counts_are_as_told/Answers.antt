use Rattle.drain_laws.proofs.CountedLemmas.{counts_are_as_told}
use Rattle.drain_laws.proofs.counts_are_as_told.Goals as goal

pub returns : goal.returns
returns c = counts_are_as_told
