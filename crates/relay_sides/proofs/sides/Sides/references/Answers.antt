use Rattle.std.proofs.Common.{ap, sym, ◌∙◌}
use Rattle.ev_types.specs.Sides.{number}
use Rattle.relay_model.specs.Plain.{PlainSide}
use Rattle.bev_core.specs.BevValue.{BevValue}
use Rattle.relay_sides.proofs.SidesLemmas.{side_seen, lower_found}
use Rattle.relay_sides.proofs.sides.Sides.references.Goals as goal

pub returns : goal.returns
returns c =
    let r = c.self.inside in
    let e = c.args.side in
    let b = lower_found r.world (number e) c.lower.result c.bev.result.now c.lower.ensures c.bev.ensures in
    c.references.ensures
    ∙ ap (λ (x : BevValue). x.refs) b
    ∙ ap (λ (x : PlainSide). x.references) (sym (side_seen c.args.self.now r c.self.view_is e c.requires))
