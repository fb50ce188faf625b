use Rattle.std.proofs.Common.{ap, sym, ◌∙◌}
use Rattle.ev_types.specs.Sides.{number}
use Rattle.bev_core.specs.BevValue.{BevValue}
use Rattle.bev_core.specs.declared.state.BevState.{BevState}
use Rattle.relay_model.specs.Plain.{PlainSide}
use Rattle.relay_sides.specs.Links.{side_at}
use Rattle.relay_sides.specs.Questions.{low_mark}
use Rattle.relay_sides.proofs.SidesLemmas.{side_seen, lower_found}
use Rattle.relay_sides.proofs.sides.Sides.low_mark.Goals as goal

pub returns-in-Read : goal.returns-in-Read
returns-in-Read c =
    let r = c.self.inside in
    let e = c.args.side in
    ap (λ (x : BevState). x.read_low) c.state-bev.ensures
    ∙ ap (λ (x : BevValue). x.read_low) (lower_found r.world (number e) c.lower.result c.bev.result.now c.lower.ensures c.bev.ensures)
    ∙ ap (λ (x : PlainSide). x.marks.read_low) (sym (side_seen c.args.self.now r c.self.view_is e c.requires))
    ∙ ap (low_mark (side_at c.args.self.now.links e)) (sym c.in-Read.is)

pub returns-in-Write : goal.returns-in-Write
returns-in-Write c =
    let r = c.self.inside in
    let e = c.args.side in
    ap (λ (x : BevState). x.write_low) c.state-bev.ensures
    ∙ ap (λ (x : BevValue). x.write_low) (lower_found r.world (number e) c.lower.result c.bev.result.now c.lower.ensures c.bev.ensures)
    ∙ ap (λ (x : PlainSide). x.marks.write_low) (sym (side_seen c.args.self.now r c.self.view_is e c.requires))
    ∙ ap (low_mark (side_at c.args.self.now.links e)) (sym c.in-Write.is)
