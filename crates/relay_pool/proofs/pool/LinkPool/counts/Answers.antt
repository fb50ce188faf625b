use Rattle.std.proofs.Common.{◌∙◌, ap}
use Rattle.relay_model.specs.Flow.{Flow}
use Rattle.relay_state.specs.State.{Lane}
use Rattle.relay_pool.proofs.BayLemmas.{flow_met, flow_over, lane_met, lane_over, peer_flow_met, peer_flow_over}
use Rattle.relay_pool.proofs.pool.LinkPool.counts.Goals as goal

pub returns-in-Some-clause-read : goal.returns-in-Some-clause-read
returns-in-Some-clause-read c =
    c.counts.ensures.read ∙ ap (λ (l : Lane). l.read) (lane_met c.args.self.now c.self.inside c.self.view_is c.self.invariant c.args.side
    c.requires c.in-Some.at c.in-Some.ensures.1 c.in-Some.ensures.0)

pub returns-in-None-clause-read : goal.returns-in-None-clause-read
returns-in-None-clause-read c =
    c.counts-in-None.ensures.read ∙ ap (λ (l : Lane). l.read) (lane_over c.args.self.now c.self.inside c.self.view_is c.self.invariant
    c.args.side c.requires c.left.result.now c.left.ensures)

pub returns-in-Some-clause-moved : goal.returns-in-Some-clause-moved
returns-in-Some-clause-moved c =
    c.counts.ensures.moved ∙ ap (λ (l : Flow). l.moved) (flow_met c.args.self.now c.self.inside c.self.view_is c.self.invariant
    c.args.side c.requires c.in-Some.at c.in-Some.ensures.1 c.in-Some.ensures.0)

pub returns-in-None-clause-moved : goal.returns-in-None-clause-moved
returns-in-None-clause-moved c =
    c.counts-in-None.ensures.moved ∙ ap (λ (l : Flow). l.moved) (flow_over c.args.self.now c.self.inside c.self.view_is c.self.invariant
    c.args.side c.requires c.left.result.now c.left.ensures)

pub returns-in-Some-clause-given : goal.returns-in-Some-clause-given
returns-in-Some-clause-given c =
    c.counts.ensures.given ∙ ap (λ (l : Flow). l.given) (peer_flow_met c.args.self.now c.self.inside c.self.view_is c.self.invariant
    c.args.side c.requires c.in-Some.at c.in-Some.ensures.1 c.in-Some.ensures.0)

pub returns-in-None-clause-given : goal.returns-in-None-clause-given
returns-in-None-clause-given c =
    c.counts-in-None.ensures.given ∙ ap (λ (l : Flow). l.given) (peer_flow_over c.args.self.now c.self.inside c.self.view_is
    c.self.invariant c.args.side c.requires c.left.result.now c.left.ensures)
