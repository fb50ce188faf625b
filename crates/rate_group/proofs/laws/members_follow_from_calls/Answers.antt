use Rattle.rate_group.proofs.KnownMembers.{members-by_calls}
use Rattle.rate_group.proofs.laws.members_follow_from_calls.Goals as goal

pub returns : goal.returns
returns c = members-by_calls
