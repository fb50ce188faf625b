use Rattle.relay_laws.proofs.LinkLemmas.{links_are_told}
use Rattle.relay_laws.proofs.trace_laws.links_are_told.Goals as goal

pub returns : goal.returns
returns c = links_are_told
