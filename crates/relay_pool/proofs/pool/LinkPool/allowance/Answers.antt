use Rattle.std.proofs.Common.{sym, ◌∙◌, subst, ◌≤◌}
use Rattle.std.specs.Option.{option_map}
use Rattle.relay_model.specs.Plain.{Standing}
use Rattle.relay_state.specs.Running.{held_at}
use Rattle.relay_state.specs.Running.{Gauge}
use Rattle.relay_pool.proofs.BayLemmas.{bay_open, below_met, gauge_met, side_met}
use Rattle.relay_pool.proofs.pool.LinkPool.allowance.Goals as goal

pub at-requires-clause-there : goal.at-requires-clause-there
at-requires-clause-there c =
    bay_open c.args.self.now c.self.inside c.self.view_is c.self.invariant c.args.side c.requires.opened c.requires.«open»

pub allowance-requires-clause-opened : goal.allowance-requires-clause-opened
allowance-requires-clause-opened c =
    below_met c.args.self.now c.self.inside c.self.view_is c.self.invariant c.args.side c.requires.opened c.at.result c.at.ensures
    (bay_open c.args.self.now c.self.inside c.self.view_is c.self.invariant c.args.side c.requires.opened c.requires.«open»)

pub allowance-requires-clause-later : goal.allowance-requires-clause-later
allowance-requires-clause-later c =
    subst (λ (g : Gauge). g.time ≤ c.args.time) (sym (gauge_met c.args.self.now c.self.inside c.self.view_is c.self.invariant c.args.side
    c.requires.opened c.at.result c.at.ensures (bay_open c.args.self.now c.self.inside c.self.view_is c.self.invariant c.args.side
    c.requires.opened c.requires.«open»))) c.requires.later

pub returns : goal.returns
returns c =
    let b = bay_open c.args.self.now c.self.inside c.self.view_is c.self.invariant c.args.side c.requires.opened c.requires.«open» in
    let side = side_met c.args.self.now c.self.inside c.self.view_is c.self.invariant c.args.side c.requires.opened c.at.result
    c.at.ensures b in
    let gauge = gauge_met c.args.self.now c.self.inside c.self.view_is c.self.invariant c.args.side c.requires.opened c.at.result
    c.at.ensures b in
    c.allowance.ensures ∙ (λ i. option_map (λ (y : Standing). held_at y.cfg (gauge i) c.args.dir c.args.time) (side i).limit)
