use Rattle.std.proofs.Common.{ap, sym, ◌∙◌}
use Rattle.relay_model.specs.Plain.{PlainSide}
use Rattle.relay_sides.specs.declared.side.SideState.{SideState}
use Rattle.relay_sides.proofs.SidesLemmas.{side_seen}
use Rattle.relay_sides.proofs.ReaderLemmas.{own_state}
use Rattle.relay_sides.proofs.sides.Sides.bad.Goals as goal

pub returns : goal.returns
returns c =
    let r = c.self.inside in
    let e = c.args.side in
    let s = own_state c.args.self.now r c.self.view_is c.self.invariant e c.requires c.number.result c.index.result.now c.number.ensures
    c.index.ensures in
    ap (λ (x : SideState). x.bad) s ∙ ap (λ (x : PlainSide). x.bad) (sym (side_seen c.args.self.now r c.self.view_is e c.requires))
