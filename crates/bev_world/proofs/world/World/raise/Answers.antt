use Rattle.std.proofs.Common.{arith, length, ap}
use Rattle.bev_world.specs.WorldValue.{WorldValue}
use Rattle.bev_world.proofs.RoomLemmas.{room-there}
use Rattle.bev_world.proofs.HoldsLemmas.{holds-raised}
use Rattle.bev_world.proofs.world.World.raise.Goals as goal

pub schedule-requires : goal.schedule-requires
schedule-requires c = λ none.
    let many = ap (λ (v : WorldValue). length v.slots) c.self.view_is in
    room-there _ (length c.self.inside.slots.items) c.args.at c.self.inside.due.pending c.self.inside.due.spare
    (omega (arith, c.requires, many)) c.self.invariant.room none

pub invariant_of-self : goal.invariant_of-self
invariant_of-self c =
    let many = ap (λ (v : WorldValue). length v.slots) c.self.view_is in
    holds-raised c.self.inside.slots.items c.self.inside.due.pending c.schedule.new.self.pending c.self.inside.due.spare
    c.schedule.new.self.spare c.args.at c.args.why c.self.invariant (omega (arith, c.requires, many)) c.schedule.ensures.pending
    c.schedule.ensures.spare
