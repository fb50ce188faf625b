use Rattle.std.proofs.Common.{◌-◌, ap, sym, ◌∙◌}
use Rattle.ev_types.specs.Sides.{number}
use Rattle.relay_model.specs.Moments.{last_activity}
use Rattle.bev_core.specs.BevValue as bev
use Rattle.relay_sides.specs.Bevs.{bevs_at}
use Rattle.relay_sides.specs.SideView.{state_at}
use Rattle.relay_sides.proofs.ReaderLemmas.{activity_kept}
use Rattle.relay_sides.proofs.SidesLemmas.{side_seen, lower_found}
use Rattle.relay_sides.proofs.sides.Sides.idle_time.Goals as goal

pub returns : goal.returns
returns c =
    let r = c.self.inside in
    let e = c.args.side in
    let d = c.args.dir in
    let b = lower_found r.world (number e) c.lower.result c.bev.result.now c.lower.ensures c.bev.ensures in
    c.saturating_sub.ensures
    ∙ ap (λ n. c.args.time - n) (c.last_activity.ensures
    ∙ ap (λ x. bev.last_activity x d) b
    ∙ activity_kept (bevs_at r.world.slots (number e)).lower.bev (state_at r.sides.items (number e)) d
    ∙ ap (λ x. last_activity x d) (sym (side_seen c.args.self.now r c.self.view_is e c.requires)))
