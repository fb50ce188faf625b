use Rattle.relay_model.proofs.ReachLemmas.{beginnings-are_legal}
use Rattle.relay_model.proofs.turn_laws.beginnings_are_legal.Goals as goal

pub returns : goal.returns
returns c = beginnings-are_legal
