use Rattle.relay_laws.proofs.LinkLemmas.{done_is_whole}
use Rattle.relay_laws.proofs.trace_laws.done_is_whole.Goals as goal

pub returns : goal.returns
returns c = done_is_whole
