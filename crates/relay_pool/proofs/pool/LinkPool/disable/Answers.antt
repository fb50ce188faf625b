use Rattle.std.proofs.Common.{false}
use Rattle.relay_sides.specs.Links.{change_side}
use Rattle.relay_pool.proofs.CallLemmas.{lifts_change}
use Rattle.relay_model.specs.Asks.{enabled}
use Rattle.relay_pool.proofs.BayLemmas.{bay_open, below_met, links_bay}
use Rattle.relay_pool.proofs.pool.LinkPool.disable.Goals as goal

pub at-requires-clause-there : goal.at-requires-clause-there
at-requires-clause-there c =
    bay_open c.args.self.now c.self.inside c.self.view_is c.self.invariant c.args.side c.requires.opened c.requires.«open»

pub disable-requires : goal.disable-requires
disable-requires c =
    below_met c.args.self.now c.self.inside c.self.view_is c.self.invariant c.args.side c.requires.opened c.at.result c.at.ensures
    (bay_open c.args.self.now c.self.inside c.self.view_is c.self.invariant c.args.side c.requires.opened c.requires.«open»)

pub returns-clause-links : goal.returns-clause-links
returns-clause-links c =
    links_bay c.args.self.now c.self.inside c.self.view_is c.self.invariant c.args.side c.requires.opened c.at.result c.at.ensures
    (bay_open c.args.self.now c.self.inside c.self.view_is c.self.invariant c.args.side c.requires.opened c.requires.«open»)
    (λ e k. change_side e (enabled c.args.dir false) k) (lifts_change (enabled c.args.dir false)) c.disable.new.self.links c.disable.ensures
