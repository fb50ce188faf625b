use Rattle.std.proofs.Common.{arith, length, ap, ◌∙◌}
use Rattle.bev_world.specs.WorldValue.{WorldValue}
use Rattle.bev_world.specs.WorldView.{world_of}
use Rattle.bev_world.proofs.WentLemmas.{went_none, went_bev, live_marks}
use Rattle.bev_world.proofs.world.World.set_watermark.Goals as goal

pub returns-in_err-at-clause-went : goal.returns-in_err-at-clause-went
returns-in_err-at-clause-went c = went_none _

pub returns-clause-went : goal.returns-clause-went
returns-clause-went c =
    let w = world_of c.self.inside in
    let many = ap (λ (v : WorldValue). length v.slots) c.self.view_is in
    rw (← c.self.view_is) (went_bev w c.in_ok-at.at _ c.index_mut.result.now c.set_watermark.new.self
    (omega (arith, c.in_ok-at.ensures.found.1, many)) c.index_mut.ensures.value (ap (λ b. b.live) c.in_ok-set_watermark.ensures.ok ∙
    live_marks _ _ _ _))
