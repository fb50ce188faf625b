use Rattle.rate_group.proofs.SharesByCalls.{shares-by_calls}
use Rattle.rate_group.proofs.laws.shares_follow_from_calls.Goals as goal

pub returns : goal.returns
returns c = shares-by_calls
