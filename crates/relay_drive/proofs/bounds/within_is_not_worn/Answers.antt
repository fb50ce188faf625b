use Rattle.relay_drive.proofs.BoundLaws.{within_is_not_worn}
use Rattle.relay_drive.proofs.bounds.within_is_not_worn.Goals as goal

pub returns : goal.returns
returns c = within_is_not_worn
