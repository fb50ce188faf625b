use Rattle.rate_group.proofs.LaneLemmas.{group-level_is_least}
use Rattle.rate_group.proofs.laws.group_level_is_least.Goals as goal

pub returns : goal.returns
returns c = group-level_is_least
