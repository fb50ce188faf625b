use Rattle.rate_group.proofs.SuspensionsByCalls.{suspensions-by_calls}
use Rattle.rate_group.proofs.laws.suspensions_follow_from_calls.Goals as goal

pub returns : goal.returns
returns c = suspensions-by_calls
