use Rattle.std.proofs.Common.{arith, length, ap}
use Rattle.bev_world.specs.WorldValue.{WorldValue}
use Rattle.bev_world.specs.WorldView.{world_of}
use Rattle.bev_world.proofs.WentLemmas.{went_bev}
use Rattle.bev_world.proofs.world.World.append_all.Goals as goal

pub returns-in_err-_moved-clause-went : goal.returns-in_err-_moved-clause-went
returns-in_err-_moved-clause-went c =
    let w = world_of c.self.inside in
    let many = ap (λ (v : WorldValue). length v.slots) c.self.view_is in
    rw (← c.self.view_is) (went_bev w c.args.at _ c.index_mut.result.now c.pass.new.to
    (omega (arith, c.requires.there, many)) c.index_mut.ensures.value (ap (λ b. b.live) c.in_err-_moved.ensures.to_err))

pub returns-clause-went : goal.returns-clause-went
returns-clause-went c =
    let w = world_of c.self.inside in
    let many = ap (λ (v : WorldValue). length v.slots) c.self.view_is in
    rw (← c.self.view_is) (went_bev w c.args.at _ c.index_mut.result.now c.pass.new.to
    (omega (arith, c.requires.there, many)) c.index_mut.ensures.value (ap (λ b. b.live) c.in_ok-_moved.ensures.ok.come))
