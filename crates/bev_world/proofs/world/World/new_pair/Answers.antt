use Rattle.bev_world.proofs.WentLemmas.{went_none}
use Rattle.bev_world.proofs.world.World.new_pair.Goals as goal

pub returns-in_err-first-clause-went : goal.returns-in_err-first-clause-went
returns-in_err-first-clause-went c = went_none _
