use Rattle.bev_world.proofs.WentLemmas.{went_none}
use Rattle.library_uses.proofs.callbacks.free_if_over.Goals as goal

pub returns-in_default : goal.returns-in_default
returns-in_default c = went_none _

pub returns-in_default-2 : goal.returns-in_default-2
returns-in_default-2 c = went_none _
