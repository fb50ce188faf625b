use Rattle.std.proofs.Common.{arith, length, ap}
use Rattle.bev_world.specs.WorldValue.{WorldValue}
use Rattle.bev_world.specs.WorldView.{world_of}
use Rattle.bev_world.proofs.HoldsLemmas.{holds_taken}
use Rattle.bev_world.proofs.WentLemmas.{went_none, went_then, went_taken}
use Rattle.bev_world.proofs.world.World.new_filter.Goals as goal

pub returns-in_err-at-clause-went : goal.returns-in_err-at-clause-went
returns-in_err-at-clause-went c = went_none _

pub returns-in_err-number-clause-went : goal.returns-in_err-number-clause-went
returns-in_err-number-clause-went c = went_none _

pub returns-then-index-clause-went : goal.returns-then-index-clause-went
returns-then-index-clause-went c = went_none _

pub invariant_of-self : goal.invariant_of-self
invariant_of-self c =
    let known = c.add.ensures.went.known in
    let many = ap (λ (v : WorldValue). length v.slots) c.self-2.view_is in
    holds_taken c.self-2.inside.slots.items c.self-2.inside.due.pending c.self-2.inside.due.spare c.in_ok-at.at _ c.index_mut.result.now
    c.self-2.invariant (omega (arith, c.in_ok-at.ensures.found.1, known, many)) c.index_mut.ensures.value

pub returns-clause-went : goal.returns-clause-went
returns-clause-went c =
    let known = c.add.ensures.went.known in
    let many = ap (λ (v : WorldValue). length v.slots) c.self-2.view_is in
    went_then _ _ _ c.add.ensures.went (rw (← c.self-2.view_is)
    (went_taken (world_of c.self-2.inside) c.in_ok-at.at _ c.index_mut.result.now
    (omega (arith, c.in_ok-at.ensures.found.1, known, many)) c.index_mut.ensures.value))
