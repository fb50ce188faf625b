use Rattle.std.proofs.Common.{arith, ap}
use Rattle.bev_world.specs.WorldView.{world_of}
use Rattle.bev_world.proofs.WentLemmas.{went_none, went_bev}
use Rattle.bev_world.proofs.world.World.decref.Goals as goal

pub returns-then-at-len-clause-went : goal.returns-then-at-len-clause-went
returns-then-at-len-clause-went c = went_none _

pub returns-in_err-decref-clause-went : goal.returns-in_err-decref-clause-went
returns-in_err-decref-clause-went c =
    rw (← c.self.view_is) (went_bev (world_of c.self.inside) c.args.id.0 _ c.index_mut.result.now c.decref.new.self (omega arith)
    c.index_mut.ensures.value (ap (λ b. b.live) c.in_err-decref.ensures.err))

pub returns-clause-went : goal.returns-clause-went
returns-clause-went c =
    rw (← c.self.view_is) (went_bev (world_of c.self.inside) c.args.id.0 _ c.index_mut.result.now c.decref.new.self (omega arith)
    c.index_mut.ensures.value (ap (λ b. b.live) c.in_ok-decref.ensures.ok))
