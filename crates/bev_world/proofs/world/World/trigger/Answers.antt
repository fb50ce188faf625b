use Rattle.bev_world.proofs.WentLemmas.{went_none, went_raised_if}
use Rattle.bev_world.proofs.world.World.trigger.Goals as goal

pub returns-in_err-at-clause-went : goal.returns-in_err-at-clause-went
returns-in_err-at-clause-went c = went_none _

pub returns-clause-went : goal.returns-clause-went
returns-clause-went c = rw c.raise_if.ensures (went_raised_if _ _ _ _ _ (went_none _))
