use Rattle.relay_laws.proofs.LinkLemmas.{frees_are_recorded_at_once}
use Rattle.relay_laws.proofs.trace_laws.frees_are_recorded_at_once.Goals as goal

pub returns : goal.returns
returns c = frees_are_recorded_at_once
