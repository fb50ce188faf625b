use Rattle.std.proofs.Common.{ap, sym, ◌∙◌}
use Rattle.relay_state.specs.State.{Lane}
use Rattle.bev_world.specs.WorldValue.{bev_at}
use Rattle.relay_sides.proofs.SidesLemmas.{lane_seen}
use Rattle.relay_sides.proofs.sides.Sides.input.Goals as goal

pub returns : goal.returns
returns c =
    let r = c.self.inside in
    let e = c.args.side in
    c.bytes_at.ensures ∙ ap (λ n. (bev_at r.world n).input.bytes) c.upper.ensures
    ∙ ap (λ (l : Lane). l.buffers.input) (sym (lane_seen c.args.self.now r c.self.view_is e c.requires))
