use Rattle.relay_drive.proofs.BoundLaws.{turn_is_bounded}
use Rattle.relay_drive.proofs.bounds.turns_are_bounded.Goals as goal

pub returns : goal.returns
returns c = turn_is_bounded
