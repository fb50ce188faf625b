use Rattle.std.proofs.Common.{arith, length, ap}
use Rattle.bev_world.specs.WorldValue.{WorldValue}
use Rattle.bev_world.specs.WorldView.{world_of}
use Rattle.bev_world.proofs.WentLemmas.{went_room}
use Rattle.bev_world.proofs.world.World.take_input.Goals as goal

pub returns-clause-went : goal.returns-clause-went
returns-clause-went c =
    let w = world_of c.self.inside in
    let many = ap (λ (v : WorldValue). length v.slots) c.self.view_is in
    rw (← c.self.view_is) (went_room w c.args.at _ c.index_mut-slot.result.now c.swap_across.new.to 0
    (omega (arith, c.requires, many)) c.index_mut-slot.ensures.value (ap (λ b. b.live) c.swap_across.ensures.other))
