use Rattle.relay_model.proofs.PlayedLemmas.{answers_go_on}
use Rattle.relay_model.proofs.played_laws.answers_go_on.Goals as goal

pub returns : goal.returns
returns c = answers_go_on
