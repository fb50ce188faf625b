use Rattle.min_timer.proofs.HandleLemmas.{handles-stay_gone}
use Rattle.min_timer.proofs.laws.handles_stay_gone.Goals as goal

pub returns : goal.returns
returns c = handles-stay_gone
