use Rattle.relay_model.proofs.ConservedLemmas.{rest_after_free}
use Rattle.relay_model.proofs.laws.rest_is_there_after_a_free.Goals as goal

pub returns : goal.returns
returns c = rest_after_free
