use Rattle.min_timer.proofs.HandleLemmas.{handles-are_new}
use Rattle.min_timer.proofs.laws.handles_are_new.Goals as goal

pub returns : goal.returns
returns c = handles-are_new
