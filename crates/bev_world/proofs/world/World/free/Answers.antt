use Rattle.bev_world.proofs.FreeLemmas.{frees_then, spare_frees, went_frees}
use Rattle.bev_world.proofs.WentLemmas.{went_none}
use Rattle.bev_world.proofs.world.World.free.Goals as goal

pub returns-in_err-find-clause-went : goal.returns-in_err-find-clause-went
returns-in_err-find-clause-went c = went_none _

pub loop-next-preserved : goal.loop-next-preserved
loop-next-preserved c =
    let h = c.loop-next.invariant in
    frees_then c.args.id.0 h.chain c.args.self.now c.loop-next.next c.free_one-next.result c.loop-next.self c.free_one-next.new.self
    c.in-Some.at h.frees h.live c.in-Some.is c.free_one-next.ensures.after c.free_one-next.ensures.next

pub returns-clause-went : goal.returns-clause-went
returns-clause-went c = went_frees _ _ _ _ _ c.loop-next.invariant.frees

pub returns-clause-spare : goal.returns-clause-spare
returns-clause-spare c = spare_frees _ _ _ _ _ c.loop-next.invariant.frees
