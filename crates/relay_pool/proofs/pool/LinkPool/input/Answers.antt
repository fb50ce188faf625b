use Rattle.std.proofs.Common.{ap, ◌∙◌}
use Rattle.relay_state.specs.State.{Lane}
use Rattle.relay_pool.proofs.BayLemmas.{bay_open, below_met, lane_met}
use Rattle.relay_pool.proofs.pool.LinkPool.input.Goals as goal

pub at-requires-clause-there : goal.at-requires-clause-there
at-requires-clause-there c =
    bay_open c.args.self.now c.self.inside c.self.view_is c.self.invariant c.args.side c.requires.opened c.requires.«open»

pub input-requires : goal.input-requires
input-requires c =
    below_met c.args.self.now c.self.inside c.self.view_is c.self.invariant c.args.side c.requires.opened c.at.result c.at.ensures
    (bay_open c.args.self.now c.self.inside c.self.view_is c.self.invariant c.args.side c.requires.opened c.requires.«open»)

pub returns : goal.returns
returns c =
    let b = bay_open c.args.self.now c.self.inside c.self.view_is c.self.invariant c.args.side c.requires.opened c.requires.«open» in
    let lane = lane_met c.args.self.now c.self.inside c.self.view_is c.self.invariant c.args.side c.requires.opened c.at.result
    c.at.ensures b in
    c.input.ensures ∙ ap (λ (l : Lane). l.buffers.input) lane
