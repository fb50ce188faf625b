use Rattle.rate_group.proofs.SharesByCalls.{rates-by_calls}
use Rattle.rate_group.proofs.laws.groups_keep_rates.Goals as goal

pub returns : goal.returns
returns c = rates-by_calls
