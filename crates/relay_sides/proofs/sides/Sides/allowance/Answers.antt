use Rattle.std.proofs.Common.{◌∙◌}
use Rattle.relay_sides.proofs.LimitLemmas.{allowance-found, later-found}
use Rattle.relay_sides.proofs.sides.Sides.allowance.Goals as goal

pub allowance_of-requires : goal.allowance_of-requires
allowance_of-requires c =
    later-found c.args.self.now c.self.inside c.self.view_is c.self.invariant c.args.side c.requires.opened c.number.result c.number.ensures
    c.index.result.now c.index.ensures c.args.time c.requires.later

pub returns : goal.returns
returns c =
    c.allowance_of.ensures
    ∙ allowance-found c.args.self.now c.self.inside c.self.view_is c.self.invariant c.args.side c.requires.opened c.number.result
    c.number.ensures c.index.result.now c.index.ensures c.args.dir c.args.time
