use Rattle.std.proofs.Common.{arith, length, ap}
use Rattle.ev_types.specs.declared.why.Why.TheVariants.{Write}
use Rattle.bev_world.specs.WorldValue.{WorldValue}
use Rattle.bev_world.specs.WorldView.{world_of}
use Rattle.bev_world.proofs.WentLemmas.{went_none, went_bev, went_raised_if}
use Rattle.bev_world.proofs.world.World.took.Goals as goal

pub returns-in_err-at-clause-went : goal.returns-in_err-at-clause-went
returns-in_err-at-clause-went c = went_none _

pub returns-clause-went : goal.returns-clause-went
returns-clause-went c =
    let w = world_of c.self.inside in
    let many = ap (λ (v : WorldValue). length v.slots) c.self.view_is in
    rw (← c.self.view_is, c.raise_if.ensures) (went_raised_if c.took_write-due.result _ _ c.in_ok-at.at Write (went_bev w c.in_ok-at.at _
    c.index_mut.result.now c.took_write-due.new.bev (omega (arith, c.in_ok-at.ensures.found.1, many)) c.index_mut.ensures.value
    (ap (λ b. b.live) c.took_write-due.ensures.after)))
