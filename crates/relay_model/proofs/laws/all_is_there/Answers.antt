use Rattle.relay_model.proofs.ConservedLemmas.{all_is_there}
use Rattle.relay_model.proofs.laws.all_is_there.Goals as goal

pub returns : goal.returns
returns c = all_is_there
