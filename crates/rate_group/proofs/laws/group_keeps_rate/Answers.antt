use Rattle.rate_group.proofs.LaneLemmas.{group-keeps_rate}
use Rattle.rate_group.proofs.laws.group_keeps_rate.Goals as goal

pub returns : goal.returns
returns c = group-keeps_rate
