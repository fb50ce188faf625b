use Rattle.std.proofs.Common.{◌∙◌, sym}
use Rattle.relay_sides.specs.KeptLimits.{limit_gains}
use Rattle.relay_sides.specs.SideView.{limit_kept}
use Rattle.relay_sides.proofs.LimitLemmas.{gains-kept, gauge-found, limit-found, later-found}
use Rattle.relay_sides.proofs.sides.Sides.gains_at.Goals as goal

pub gains_of-requires-clause-later : goal.gains_of-requires-clause-later
gains_of-requires-clause-later c =
    later-found c.args.self.now c.self.inside c.self.view_is c.self.invariant c.args.side c.requires.opened c.number.result c.number.ensures
    c.index.result.now c.index.ensures c.args.time c.requires.later

pub returns : goal.returns
returns c =
    let v = c.args.self.now in
    let r = c.self.inside in
    let x = c.index.result.now in
    let gauge = gauge-found v r c.self.view_is c.self.invariant c.args.side c.requires.opened c.number.result
    c.number.ensures x c.index.ensures in
    let limit = limit-found v r c.self.view_is c.self.invariant c.args.side c.requires.opened c.number.result
    c.number.ensures x c.index.ensures in
    c.gains_of.ensures ∙ gains-kept (limit_kept x) c.args.time ∙ (λ i. limit_gains c.args.time (sym gauge i) (sym limit i))
