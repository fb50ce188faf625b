use Rattle.relay_model.proofs.PlayedTurns.{turn_takes_all}
use Rattle.relay_model.proofs.played_laws.turns_take_all.Goals as goal

pub returns : goal.returns
returns c = turn_takes_all
