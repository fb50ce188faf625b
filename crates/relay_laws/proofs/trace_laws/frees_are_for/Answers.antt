use Rattle.relay_laws.proofs.FreeLemmas.{frees_are_for}
use Rattle.relay_laws.proofs.trace_laws.frees_are_for.Goals as goal

pub returns : goal.returns
returns c = frees_are_for
