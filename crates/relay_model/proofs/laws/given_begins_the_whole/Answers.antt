use Rattle.relay_model.proofs.ConservedLemmas.{given_begins}
use Rattle.relay_model.proofs.laws.given_begins_the_whole.Goals as goal

pub returns : goal.returns
returns c = given_begins
