use Rattle.std.proofs.Common.{sym, subst, List, vec_capacity, rules}
use Rattle.bev_world.specs.declared.slot.Slot.{Slot}
use Rattle.bev_world.specs.WorldView.{world_of, Holds}
use Rattle.bev_world.proofs.HoldsLemmas.{holds-room}
use Rattle.bev_world.proofs.WentLemmas.{went_none, went_due}
use Rattle.bev_world.proofs.world.World.reserve.Goals as goal

pub returns-then-more-self-clause-went : goal.returns-then-more-self-clause-went
returns-then-more-self-clause-went c = went_none _

pub returns-in_err-all-clause-went : goal.returns-in_err-all-clause-went
returns-in_err-all-clause-went c = went_none _

pub returns-in_err-reserve-clause-went : goal.returns-in_err-reserve-clause-went
returns-in_err-reserve-clause-went c = rw (← c.self.view_is)
    (went_due (world_of c.self.inside) _ _ _ c.reserve.ensures.pending c.reserve.ensures.batch)

pub returns-in_err-reserve-2-clause-went : goal.returns-in_err-reserve-2-clause-went
returns-in_err-reserve-2-clause-went c =
    rw (← c.self.view_is, c.reserve-2.ensures.items)
    (went_due (world_of c.self.inside) _ _ _ c.reserve.ensures.pending c.reserve.ensures.batch)

pub invariant_of-self-2 : goal.invariant_of-self-2
invariant_of-self-2 c =
    let ss = c.self.inside.slots.items in
    let next = c.reserve.new.self in
    subst (λ (z : List Slot). Holds c.self.inside.chunked z next.pending next.spare c.args.more (vec_capacity c.reserve-2.new.self))
    (sym c.reserve-2.ensures.items)
    (holds-room ss c.self.inside.due.pending next.pending c.self.inside.due.spare next.spare c.args.more (vec_capacity c.reserve-2.new.self)
    c.self.invariant (search rules) (search rules))

pub returns-clause-went : goal.returns-clause-went
returns-clause-went c =
    rw (← c.self.view_is, c.reserve-2.ensures.items)
    (went_due (world_of c.self.inside) _ _ _ c.reserve.ensures.pending c.reserve.ensures.batch)
