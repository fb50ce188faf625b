use Rattle.std.proofs.Common.{arith, length, ap}
use Rattle.ev_types.specs.declared.why.Why.TheVariants.{Read}
use Rattle.bev_world.specs.WorldValue.{WorldValue}
use Rattle.bev_world.specs.WorldView.{world_of}
use Rattle.bev_world.proofs.WentLemmas.{went_none, went_slot, went_raised_if}
use Rattle.bev_world.proofs.world.World.feed.Goals as goal

pub returns-in_err-at-clause-went : goal.returns-in_err-at-clause-went
returns-in_err-at-clause-went c = went_none _

pub returns-in_err-due-clause-went : goal.returns-in_err-due-clause-went
returns-in_err-due-clause-went c =
    let w = world_of c.self.inside in
    let many = ap (λ (v : WorldValue). length v.slots) c.self.view_is in
    rw (← c.self.view_is) (went_slot w c.in_ok-at.at _ c.index_mut.result.now c.bring.new.slot
    (omega (arith, c.in_ok-at.ensures.found.1, many)) c.index_mut.ensures.value (ap (λ s. s.kind) c.in_err-due.ensures.err)
    (ap (λ s. s.bev.live) c.in_err-due.ensures.err))

pub returns-clause-went : goal.returns-clause-went
returns-clause-went c =
    let w = world_of c.self.inside in
    let many = ap (λ (v : WorldValue). length v.slots) c.self.view_is in
    rw (← c.self.view_is, c.raise_if.ensures) (went_raised_if c.in_ok-due.due _ _ c.in_ok-at.at Read (went_slot w c.in_ok-at.at _
    c.index_mut.result.now c.bring.new.slot (omega (arith, c.in_ok-at.ensures.found.1, many)) c.index_mut.ensures.value
    (ap (λ s. s.kind) c.in_ok-due.ensures.ok) (ap (λ s. s.bev.live) c.in_ok-due.ensures.ok)))
