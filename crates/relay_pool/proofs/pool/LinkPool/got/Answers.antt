use Rattle.std.proofs.Common.{◌≤◌, subst, take}
use Rattle.relay_sides.specs.Links.{after_got}
use Rattle.relay_pool.proofs.CallLemmas.{lifts_got}
use Rattle.relay_pool.proofs.BayLemmas.{below_met, links_bay}
use Rattle.relay_pool.proofs.ReadLemmas.{bay_ready, room_met}
use Rattle.relay_pool.proofs.pool.LinkPool.got.Goals as goal

pub at-requires-clause-there : goal.at-requires-clause-there
at-requires-clause-there c =
    bay_ready c.args.self.now c.self.inside c.self.view_is c.self.invariant c.args.side c.requires.opened c.args.n c.requires.some
    c.requires.room

pub got-requires-clause-opened : goal.got-requires-clause-opened
got-requires-clause-opened c =
    below_met c.args.self.now c.self.inside c.self.view_is c.self.invariant c.args.side c.requires.opened c.at.result c.at.ensures
    (bay_ready c.args.self.now c.self.inside c.self.view_is c.self.invariant c.args.side c.requires.opened c.args.n c.requires.some
    c.requires.room)

pub got-requires-clause-room : goal.got-requires-clause-room
got-requires-clause-room c =
    subst (λ m. c.args.n ≤ m) (room_met c.args.self.now c.self.inside c.self.view_is c.self.invariant c.args.side c.requires.opened
    c.at.result c.at.ensures (bay_ready c.args.self.now c.self.inside c.self.view_is c.self.invariant c.args.side c.requires.opened
    c.args.n c.requires.some c.requires.room)) c.requires.room

pub returns-clause-links : goal.returns-clause-links
returns-clause-links c =
    links_bay c.args.self.now c.self.inside c.self.view_is c.self.invariant c.args.side c.requires.opened c.at.result c.at.ensures
    (bay_ready c.args.self.now c.self.inside c.self.view_is c.self.invariant c.args.side c.requires.opened c.args.n c.requires.some
    c.requires.room)
    (λ e k. after_got c.args.time e (take c.args.n c.args.block.now.items) k) (lifts_got c.args.time (take c.args.n
    c.args.block.now.items)) c.got.new.self.links c.got.ensures.links
