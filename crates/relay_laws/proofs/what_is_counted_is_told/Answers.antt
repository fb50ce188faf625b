use Rattle.relay_laws.proofs.LawLemmas.{counts_are_told}
use Rattle.relay_laws.proofs.what_is_counted_is_told.Goals as goal

pub returns : goal.returns
returns c = counts_are_told
