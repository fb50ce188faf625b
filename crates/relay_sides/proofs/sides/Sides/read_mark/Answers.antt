use Rattle.std.proofs.Common.{ap, sym, ◌∙◌}
use Rattle.ev_types.specs.Sides.{number}
use Rattle.bev_core.specs.BevValue.{BevValue}
use Rattle.relay_model.specs.Plain.{PlainSide}
use Rattle.relay_model.specs.Rooms.{most_at_once, mark_or}
use Rattle.relay_sides.proofs.SidesLemmas.{side_seen, lower_found}
use Rattle.relay_sides.proofs.sides.Sides.read_mark.Goals as goal

pub returns : goal.returns
returns c =
    let r = c.self.inside in
    let e = c.args.side in
    let b = c.high_mark-high.ensures
    ∙ ap (λ (x : BevValue). x.read_high) (lower_found r.world (number e) c.lower.result c.bev.result.now c.lower.ensures c.bev.ensures) in
    c.mark_or.ensures ∙ (λ i. mark_or (b i) most_at_once)
    ∙ ap (λ (x : PlainSide). mark_or x.marks.read_high most_at_once) (sym (side_seen c.args.self.now r c.self.view_is e c.requires))
