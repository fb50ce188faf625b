use Rattle.std.proofs.Common.{sym, ◌∙◌, subst, ◌≤◌}
use Rattle.relay_sides.specs.KeptLimits.{limit_gains}
use Rattle.relay_state.specs.Running.{Gauge}
use Rattle.relay_pool.proofs.BayLemmas.{bay_open, below_met, gauge_met, side_met}
use Rattle.relay_pool.proofs.pool.LinkPool.gains_at.Goals as goal

pub at-requires-clause-there : goal.at-requires-clause-there
at-requires-clause-there c =
    bay_open c.args.self.now c.self.inside c.self.view_is c.self.invariant c.args.side c.requires.opened c.requires.«open»

pub gains_at-requires-clause-opened : goal.gains_at-requires-clause-opened
gains_at-requires-clause-opened c =
    below_met c.args.self.now c.self.inside c.self.view_is c.self.invariant c.args.side c.requires.opened c.at.result c.at.ensures
    (bay_open c.args.self.now c.self.inside c.self.view_is c.self.invariant c.args.side c.requires.opened c.requires.«open»)

pub gains_at-requires-clause-later : goal.gains_at-requires-clause-later
gains_at-requires-clause-later c =
    subst (λ (g : Gauge). g.time ≤ c.args.time) (sym (gauge_met c.args.self.now c.self.inside c.self.view_is c.self.invariant c.args.side
    c.requires.opened c.at.result c.at.ensures (bay_open c.args.self.now c.self.inside c.self.view_is c.self.invariant c.args.side
    c.requires.opened c.requires.«open»))) c.requires.later

pub returns : goal.returns
returns c =
    let b = bay_open c.args.self.now c.self.inside c.self.view_is c.self.invariant c.args.side c.requires.opened c.requires.«open» in
    let side = side_met c.args.self.now c.self.inside c.self.view_is c.self.invariant c.args.side c.requires.opened c.at.result
    c.at.ensures b in
    let gauge = gauge_met c.args.self.now c.self.inside c.self.view_is c.self.invariant c.args.side c.requires.opened c.at.result
    c.at.ensures b in
    c.gains_at.ensures ∙ (λ i. limit_gains c.args.time (gauge i) (side i).limit)
