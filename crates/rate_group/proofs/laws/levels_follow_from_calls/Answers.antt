use Rattle.rate_group.proofs.LevelsByCalls.{levels-by_calls}
use Rattle.rate_group.proofs.laws.levels_follow_from_calls.Goals as goal

pub returns : goal.returns
returns c = levels-by_calls
