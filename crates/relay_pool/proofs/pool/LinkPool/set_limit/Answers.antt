use Rattle.std.proofs.Common.{◌≤◌, sym, subst}
use Rattle.relay_state.specs.Running.{Gauge}
use Rattle.relay_sides.specs.Links.{limited}
use Rattle.relay_pool.proofs.CallLemmas.{lifts_limited}
use Rattle.relay_pool.proofs.BayLemmas.{bay_open, below_met, gauge_met, links_bay}
use Rattle.relay_pool.proofs.pool.LinkPool.set_limit.Goals as goal

pub at-requires-clause-there : goal.at-requires-clause-there
at-requires-clause-there c =
    bay_open c.args.self.now c.self.inside c.self.view_is c.self.invariant c.args.side c.requires.opened c.requires.«open»

pub set_limit-requires-clause-opened : goal.set_limit-requires-clause-opened
set_limit-requires-clause-opened c =
    below_met c.args.self.now c.self.inside c.self.view_is c.self.invariant c.args.side c.requires.opened c.at.result c.at.ensures
    (bay_open c.args.self.now c.self.inside c.self.view_is c.self.invariant c.args.side c.requires.opened c.requires.«open»)

pub set_limit-requires-clause-later : goal.set_limit-requires-clause-later
set_limit-requires-clause-later c =
    subst (λ (g : Gauge). g.time ≤ c.args.time) (sym (gauge_met c.args.self.now c.self.inside c.self.view_is c.self.invariant c.args.side
    c.requires.opened c.at.result c.at.ensures (bay_open c.args.self.now c.self.inside c.self.view_is c.self.invariant c.args.side
    c.requires.opened c.requires.«open»))) c.requires.later

pub returns-clause-links : goal.returns-clause-links
returns-clause-links c =
    links_bay c.args.self.now c.self.inside c.self.view_is c.self.invariant c.args.side c.requires.opened c.at.result c.at.ensures
    (bay_open c.args.self.now c.self.inside c.self.view_is c.self.invariant c.args.side c.requires.opened c.requires.«open»)
    (λ e k. limited c.args.time c.args.turn e c.args.cfg k) (lifts_limited c.args.time c.args.turn c.args.cfg) c.set_limit.new.self.links
    c.set_limit.ensures.links
