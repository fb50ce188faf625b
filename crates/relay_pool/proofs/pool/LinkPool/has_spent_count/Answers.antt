use Rattle.std.proofs.Common.{◌∙◌, ap, ◌||◌}
use Rattle.relay_state.specs.Closing.{in_side}
use Rattle.relay_state.specs.Counting.{has_flown_far, has_read_far}
use Rattle.relay_pool.proofs.BayLemmas.{flow_met, flow_over, lane_met, lane_over, over_met, peer_flow_met, peer_flow_over}
use Rattle.relay_pool.proofs.BayLemmas.{peer_lane_met, peer_lane_over}
use Rattle.relay_pool.proofs.pool.LinkPool.has_spent_count.Goals as goal

pub returns-in-Some : goal.returns-in-Some
returns-in-Some c =
    let a = in_side c.in-Some.bay in
    let h = ap in_side c.in-Some.ensures.1 in
    let b = c.in-Some.ensures.0 in
    let flow = flow_met c.args.self.now c.self.inside c.self.view_is c.self.invariant (in_side c.args.link) c.requires a h b in
    let lane = lane_met c.args.self.now c.self.inside c.self.view_is c.self.invariant (in_side c.args.link) c.requires a h b in
    let back = peer_flow_met c.args.self.now c.self.inside c.self.view_is c.self.invariant (in_side c.args.link) c.requires a h b in
    let back_lane = peer_lane_met c.args.self.now c.self.inside c.self.view_is c.self.invariant (in_side c.args.link) c.requires a h b in
    c.has_spent_count.ensures
    ∙ (λ i. (has_flown_far (flow i) || has_read_far (lane i)) || (has_flown_far (back i) || has_read_far (back_lane i)))

pub returns-in-None : goal.returns-in-None
returns-in-None c =
    let o = c.left.result.now in
    let h = c.left.ensures in
    let over = over_met c.args.self.now c.self.inside c.self.view_is c.self.invariant (in_side c.args.link) c.requires o h in
    let flow = flow_over c.args.self.now c.self.inside c.self.view_is c.self.invariant (in_side c.args.link) c.requires o h in
    let lane = lane_over c.args.self.now c.self.inside c.self.view_is c.self.invariant (in_side c.args.link) c.requires o h in
    let back = peer_flow_over c.args.self.now c.self.inside c.self.view_is c.self.invariant (in_side c.args.link) c.requires o h in
    let back_lane = peer_lane_over c.args.self.now c.self.inside c.self.view_is c.self.invariant (in_side c.args.link) c.requires o h in
    over.spent ∙ (λ i. (has_flown_far (flow i) || has_read_far (lane i)) || (has_flown_far (back i) || has_read_far (back_lane i)))
