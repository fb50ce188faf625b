use Rattle.relay_model.proofs.StandsLawLemmas.{buffers_hold_the_rest}
use Rattle.relay_model.proofs.played_laws.buffers_hold_the_rest.Goals as goal

pub returns : goal.returns
returns c = buffers_hold_the_rest
