use Rattle.relay_drive.proofs.BoundLaws.{new_drive_is_within}
use Rattle.relay_drive.proofs.bounds.new_drive_is_within.Goals as goal

pub returns : goal.returns
returns c = new_drive_is_within
