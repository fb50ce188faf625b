use Rattle.std.proofs.Common.{ap, sym, ◌∙◌}
use Rattle.ev_types.specs.Sides.{number}
use Rattle.relay_model.specs.Moments.{timeout_of}
use Rattle.bev_core.specs.BevValue.{timeout}
use Rattle.relay_sides.specs.Bevs.{bevs_at}
use Rattle.relay_sides.specs.SideView.{state_at}
use Rattle.relay_sides.proofs.ReaderLemmas.{timeout_kept}
use Rattle.relay_sides.proofs.SidesLemmas.{side_seen, lower_found}
use Rattle.relay_sides.proofs.sides.Sides.timeout.Goals as goal

pub returns : goal.returns
returns c =
    let r = c.self.inside in
    let e = c.args.side in
    let d = c.args.dir in
    let b = lower_found r.world (number e) c.lower.result c.bev.result.now c.lower.ensures c.bev.ensures in
    c.timeout.ensures
    ∙ ap (λ x. timeout x d) b
    ∙ timeout_kept (bevs_at r.world.slots (number e)).lower.bev (state_at r.sides.items (number e)) d
    ∙ ap (λ x. timeout_of x d) (sym (side_seen c.args.self.now r c.self.view_is e c.requires))
