use Rattle.std.proofs.Common.{ap, sym, ◌∙◌}
use Rattle.relay_model.specs.Flow.{Flow}
use Rattle.relay_sides.specs.declared.side.SideState.{SideState}
use Rattle.relay_sides.proofs.SidesLemmas.{flow_seen}
use Rattle.relay_sides.proofs.LinkLemmas.{own_found}
use Rattle.relay_sides.proofs.sides.Sides.is_held.Goals as goal

pub returns : goal.returns
returns c =
    ap (λ (z : SideState). z.held)
    (own_found c.args.self.now c.self.inside c.self.view_is c.self.invariant c.args.from c.requires c.number.result c.number.ensures
    c.index.result.now c.index.ensures)
    ∙ ap (λ (f : Flow). f.held) (sym (flow_seen c.args.self.now c.self.inside c.self.view_is c.args.from c.requires))
