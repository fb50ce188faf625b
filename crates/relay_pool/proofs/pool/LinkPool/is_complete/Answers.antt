use Rattle.std.proofs.Common.{◌∙◌, ◌==◌, ◌&&◌, length}
use Rattle.relay_pool.proofs.BayLemmas.{bay_open, below_met, flow_met, lane_met, side_met}
use Rattle.relay_pool.proofs.pool.LinkPool.is_complete.Goals as goal

pub at-requires-clause-there : goal.at-requires-clause-there
at-requires-clause-there c =
    bay_open c.args.self.now c.self.inside c.self.view_is c.self.invariant c.args.side c.requires.opened c.requires.«open»

pub is_complete-requires : goal.is_complete-requires
is_complete-requires c =
    below_met c.args.self.now c.self.inside c.self.view_is c.self.invariant c.args.side c.requires.opened c.at.result c.at.ensures
    (bay_open c.args.self.now c.self.inside c.self.view_is c.self.invariant c.args.side c.requires.opened c.requires.«open»)

pub returns : goal.returns
returns c =
    let b = bay_open c.args.self.now c.self.inside c.self.view_is c.self.invariant c.args.side c.requires.opened c.requires.«open» in
    let side = side_met c.args.self.now c.self.inside c.self.view_is c.self.invariant c.args.side c.requires.opened c.at.result
    c.at.ensures b in
    let flow = flow_met c.args.self.now c.self.inside c.self.view_is c.self.invariant c.args.side c.requires.opened c.at.result
    c.at.ensures b in
    let lane = lane_met c.args.self.now c.self.inside c.self.view_is c.self.invariant c.args.side c.requires.opened c.at.result
    c.at.ensures b in
    c.is_complete.ensures ∙ (λ i. let b = (lane i).buffers in (side i).ended && (flow i).write_done
    && (length b.raw_input == 0 && length b.input == 0 && length b.output == 0 && length b.raw_output == 0))
