use Rattle.relay_rows.proofs.IllegalLemmas.{replayed-leads}
use Rattle.relay_rows.proofs.laws.one_state_is_reached.Goals as goal

pub returns : goal.returns
returns c = replayed-leads
