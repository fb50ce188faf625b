use Rattle.relay_laws.proofs.LawLemmas.{means_conserved}
use Rattle.relay_laws.proofs.what_stands_is_conserved.Goals as goal

pub returns : goal.returns
returns c = means_conserved
