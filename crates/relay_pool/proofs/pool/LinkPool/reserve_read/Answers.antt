use Rattle.std.proofs.Common.{◌≤◌, refl, sym, subst, arith}
use Rattle.std.specs.Result.{OnOk}
use Rattle.relay_pool.specs.PoolView.{pool_of}
use Rattle.relay_pool.specs.declared.pool.LinkPool.TheInside.{Inside}
use Rattle.relay_pool.proofs.BayLemmas.{below_pool}
use Rattle.relay_pool.proofs.ReadLemmas.{pooled_same, room_met, room_over}
use Rattle.relay_pool.proofs.pool.LinkPool.reserve_read.Goals as goal

pub returns-in-Some-clause-room : goal.returns-in-Some-clause-room
returns-in-Some-clause-room c =
    let r : Inside = record c.self.inside { sides = c.reserve_read.new.self } in
    let inv = pooled_same c.self.inside c.self.invariant c.reserve_read.new.self c.reserve_read.ensures.links in
    let b = below_pool c.args.self.now c.self.inside c.self.view_is c.self.invariant c.args.side c.requires in
    let room = room_met (pool_of r) r refl inv c.args.side b c.in-Some.at c.in-Some.ensures.1 c.in-Some.ensures.0 in
    subst (λ m. OnOk c.reserve_read.result (c.args.room ≤ m)) (sym room) c.reserve_read.ensures.room

pub returns-in-Some-clause-there : goal.returns-in-Some-clause-there
returns-in-Some-clause-there c = λ some within.
    c.reserve_read.ensures.there some
    (subst (λ m. c.args.room ≤ m)
    (room_met c.args.self.now c.self.inside c.self.view_is c.self.invariant c.args.side c.requires c.in-Some.at c.in-Some.ensures.1
    c.in-Some.ensures.0) within)

pub returns-in-None-clause-there : goal.returns-in-None-clause-there
returns-in-None-clause-there c = λ some within.
    let none = room_over c.args.self.now c.self.inside c.self.view_is c.self.invariant c.args.side c.requires c.in-None.ensures in
    absurd (omega (arith, some, within, none))
