use Rattle.bev_world.proofs.HoldsLemmas.{holds-begun}
use Rattle.bev_world.proofs.world.World.begin_batch.Goals as goal

pub invariant_of-self-2 : goal.invariant_of-self-2
invariant_of-self-2 c =
    holds-begun c.self.inside.slots.items c.self.inside.due.pending c.begin.new.self.pending c.self.inside.due.spare
    c.begin.new.self.spare c.self.invariant c.begin.ensures.pending c.begin.ensures.spare
