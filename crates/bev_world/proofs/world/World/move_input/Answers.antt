use Rattle.bev_world.proofs.WentLemmas.{went_none}
use Rattle.bev_world.proofs.world.World.move_input.Goals as goal

pub returns-in_err-source-clause-went : goal.returns-in_err-source-clause-went
returns-in_err-source-clause-went c = went_none _

pub returns-in_err-target-clause-went : goal.returns-in_err-target-clause-went
returns-in_err-target-clause-went c = went_none _

pub returns-in_err-n-clause-went : goal.returns-in_err-n-clause-went
returns-in_err-n-clause-went c = went_none _
