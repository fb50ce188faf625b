use Rattle.std.proofs.Common.{ap, sym, ◌∙◌}
use Rattle.ev_types.specs.Sides.{number}
use Rattle.relay_model.specs.Plain.{PlainSide}
use Rattle.bev_core.specs.BevValue.{BevValue}
use Rattle.relay_sides.proofs.SidesLemmas.{side_seen, lower_found}
use Rattle.relay_sides.proofs.sides.Sides.is_live.Goals as goal

pub returns : goal.returns
returns c =
    let r = c.self.inside in
    let e = c.args.side in
    c.is_live.ensures
    ∙ ap (λ (x : BevValue). x.live) (lower_found r.world (number e) c.lower.result c.bev.result.now c.lower.ensures c.bev.ensures)
    ∙ ap (λ (x : PlainSide). x.live) (sym (side_seen c.args.self.now r c.self.view_is e c.requires))
