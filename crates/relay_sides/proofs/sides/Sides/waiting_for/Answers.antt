use Rattle.std.proofs.Common.{ap, sym, ◌∙◌}
use Rattle.ev_types.specs.Sides.{number, peer}
use Rattle.relay_state.specs.State.{Lane}
use Rattle.bev_world.specs.WorldValue.{bev_at}
use Rattle.relay_sides.specs.Bevs.{bevs_at, twin}
use Rattle.relay_sides.proofs.BevsLemmas.{twin-number, twin-twin}
use Rattle.relay_sides.proofs.SidesLemmas.{lane_seen}
use Rattle.relay_sides.proofs.sides.Sides.waiting_for.Goals as goal

pub returns : goal.returns
returns c =
    let r = c.self.inside in
    let e = c.args.side in
    let back = ap twin (twin-number e) ∙ twin-twin (number e) in
    c.bytes_at.ensures ∙ ap (λ n. (bev_at r.world n).output.bytes) c.lower.ensures
    ∙ ap (λ n. (bevs_at r.world.slots n).lower.bev.output.bytes) (sym back)
    ∙ ap (λ (l : Lane). l.buffers.raw_output) (sym (lane_seen c.args.self.now r c.self.view_is (peer e) c.requires))
