use Rattle.relay_laws.proofs.FreeLemmas.{nothing_is_of_hooks}
use Rattle.relay_laws.proofs.trace_laws.nothing_is_of_hooks.Goals as goal

pub returns : goal.returns
returns c = nothing_is_of_hooks
