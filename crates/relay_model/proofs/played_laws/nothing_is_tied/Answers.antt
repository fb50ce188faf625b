use Rattle.relay_model.proofs.TiedLemmas.{nothing_is_tied}
use Rattle.relay_model.proofs.played_laws.nothing_is_tied.Goals as goal

pub returns : goal.returns
returns c = nothing_is_tied
