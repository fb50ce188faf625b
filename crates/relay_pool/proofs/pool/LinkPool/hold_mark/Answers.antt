use Rattle.std.proofs.Common.{ap, ◌∙◌}
use Rattle.relay_model.specs.Plain.{PlainSide}
use Rattle.relay_model.specs.Rooms.{mark_or}
use Rattle.relay_pool.proofs.BayLemmas.{bay_open, below_met, side_met}
use Rattle.relay_pool.proofs.pool.LinkPool.hold_mark.Goals as goal

pub at-requires-clause-there : goal.at-requires-clause-there
at-requires-clause-there c =
    bay_open c.args.self.now c.self.inside c.self.view_is c.self.invariant c.args.side c.requires.opened c.requires.«open»

pub hold_mark-requires : goal.hold_mark-requires
hold_mark-requires c =
    below_met c.args.self.now c.self.inside c.self.view_is c.self.invariant c.args.side c.requires.opened c.at.result c.at.ensures
    (bay_open c.args.self.now c.self.inside c.self.view_is c.self.invariant c.args.side c.requires.opened c.requires.«open»)

pub returns : goal.returns
returns c =
    let b = bay_open c.args.self.now c.self.inside c.self.view_is c.self.invariant c.args.side c.requires.opened c.requires.«open» in
    let side = side_met c.args.self.now c.self.inside c.self.view_is c.self.invariant c.args.side c.requires.opened c.at.result
    c.at.ensures b in
    c.hold_mark.ensures ∙ ap (λ (x : PlainSide). mark_or x.marks.write_high c.args.hold) side
