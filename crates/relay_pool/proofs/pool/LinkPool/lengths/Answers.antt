use Rattle.std.proofs.Common.{◌∙◌, length}
use Rattle.relay_pool.proofs.BayLemmas.{bay_open, below_met, lane_met, peer_lane_met}
use Rattle.relay_pool.proofs.pool.LinkPool.lengths.Goals as goal

pub at-requires-clause-there : goal.at-requires-clause-there
at-requires-clause-there c =
    bay_open c.args.self.now c.self.inside c.self.view_is c.self.invariant c.args.side c.requires.opened c.requires.«open»

pub lengths-requires : goal.lengths-requires
lengths-requires c =
    below_met c.args.self.now c.self.inside c.self.view_is c.self.invariant c.args.side c.requires.opened c.at.result c.at.ensures
    (bay_open c.args.self.now c.self.inside c.self.view_is c.self.invariant c.args.side c.requires.opened c.requires.«open»)

pub returns : goal.returns
returns c =
    let b = bay_open c.args.self.now c.self.inside c.self.view_is c.self.invariant c.args.side c.requires.opened c.requires.«open» in
    let lane = lane_met c.args.self.now c.self.inside c.self.view_is c.self.invariant c.args.side c.requires.opened c.at.result
    c.at.ensures b in
    let peer_lane = peer_lane_met c.args.self.now c.self.inside c.self.view_is c.self.invariant c.args.side c.requires.opened c.at.result
    c.at.ensures b in
    c.lengths.ensures ∙ (λ i. record {
      raw_input = length (lane i).buffers.raw_input;
      input = length (lane i).buffers.input;
      output = length (peer_lane i).buffers.output;
      raw_output = length (peer_lane i).buffers.raw_output;
    })
