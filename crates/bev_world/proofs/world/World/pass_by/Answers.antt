use Rattle.bev_world.proofs.WentLemmas.{went_none}
use Rattle.bev_world.proofs.world.World.pass_by.Goals as goal

pub returns-in_err-at-clause-went : goal.returns-in_err-at-clause-went
returns-in_err-at-clause-went g c = went_none _

pub returns-in_err-under-clause-went : goal.returns-in_err-under-clause-went
returns-in_err-under-clause-went g c = went_none _
