use Rattle.relay_steps.proofs.RoomLemmas.{groups_tell_levels}
use Rattle.relay_steps.proofs.bucket_laws.groups_tell_levels.Goals as goal

pub returns : goal.returns
returns c = groups_tell_levels
