use Rattle.std.proofs.Common.{ap, ◌∙◌, ◌+◌, ◌-◌, ◌^◌, length, min}
use Rattle.relay_state.specs.State.{Lane}
use Rattle.relay_pool.proofs.BayLemmas.{bay_open, below_met, peer_lane_met}
use Rattle.relay_pool.proofs.pool.LinkPool.output_len.Goals as goal

pub at-requires-clause-there : goal.at-requires-clause-there
at-requires-clause-there c =
    bay_open c.args.self.now c.self.inside c.self.view_is c.self.invariant c.args.side c.requires.opened c.requires.«open»

pub output_len-requires : goal.output_len-requires
output_len-requires c =
    below_met c.args.self.now c.self.inside c.self.view_is c.self.invariant c.args.side c.requires.opened c.at.result c.at.ensures
    (bay_open c.args.self.now c.self.inside c.self.view_is c.self.invariant c.args.side c.requires.opened c.requires.«open»)

pub returns : goal.returns
returns c =
    let b = bay_open c.args.self.now c.self.inside c.self.view_is c.self.invariant c.args.side c.requires.opened c.requires.«open» in
    let peer_lane = peer_lane_met c.args.self.now c.self.inside c.self.view_is c.self.invariant c.args.side c.requires.opened c.at.result
    c.at.ensures b in
    c.output_len.ensures ∙ ap (λ (l : Lane). min (length l.buffers.output + length l.buffers.raw_output) (2 ^ 64 - 1)) peer_lane
