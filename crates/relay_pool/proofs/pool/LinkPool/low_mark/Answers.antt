use Rattle.std.proofs.Common.{ap, ◌∙◌}
use Rattle.relay_model.specs.Plain.{PlainSide}
use Rattle.relay_sides.specs.Questions.{low_mark}
use Rattle.relay_pool.proofs.BayLemmas.{bay_open, below_met, side_met}
use Rattle.relay_pool.proofs.pool.LinkPool.low_mark.Goals as goal

pub at-requires-clause-there : goal.at-requires-clause-there
at-requires-clause-there c =
    bay_open c.args.self.now c.self.inside c.self.view_is c.self.invariant c.args.side c.requires.opened c.requires.«open»

pub low_mark-requires : goal.low_mark-requires
low_mark-requires c =
    below_met c.args.self.now c.self.inside c.self.view_is c.self.invariant c.args.side c.requires.opened c.at.result c.at.ensures
    (bay_open c.args.self.now c.self.inside c.self.view_is c.self.invariant c.args.side c.requires.opened c.requires.«open»)

pub returns : goal.returns
returns c =
    let b = bay_open c.args.self.now c.self.inside c.self.view_is c.self.invariant c.args.side c.requires.opened c.requires.«open» in
    let side = side_met c.args.self.now c.self.inside c.self.view_is c.self.invariant c.args.side c.requires.opened c.at.result
    c.at.ensures b in
    c.low_mark.ensures ∙ ap (λ (x : PlainSide). low_mark x c.args.dir) side
