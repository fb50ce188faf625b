use Rattle.std.proofs.Common.{length, ap, sym, ◌∙◌}
use Rattle.ev_types.specs.Sides.{number}
use Rattle.relay_state.specs.State.{Lane}
use Rattle.bev_core.specs.BevValue.{BevValue}
use Rattle.relay_sides.proofs.SidesLemmas.{lane_seen, upper_found}
use Rattle.relay_sides.proofs.sides.Sides.own_input_len.Goals as goal

pub returns : goal.returns
returns c =
    let r = c.self.inside in
    let e = c.args.from in
    let b = upper_found r.world (number e) c.upper.result c.bev.result.now c.upper.ensures c.bev.ensures in
    c.len.ensures.len ∙ ap (λ (x : BevValue). length x.input.bytes) b
    ∙ ap (λ (l : Lane). length l.buffers.input) (sym (lane_seen c.args.self.now r c.self.view_is e c.requires))
