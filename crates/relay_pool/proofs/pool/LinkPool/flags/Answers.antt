use Rattle.std.proofs.Common.{◌∙◌, ap}
use Rattle.relay_sides.specs.SideView.{flags_of}
use Rattle.relay_pool.proofs.BayLemmas.{side_met, side_over}
use Rattle.relay_pool.proofs.pool.LinkPool.flags.Goals as goal

pub returns-in-Some : goal.returns-in-Some
returns-in-Some c =
    c.flags.ensures ∙ ap flags_of (side_met c.args.self.now c.self.inside c.self.view_is c.self.invariant c.args.side c.requires
    c.in-Some.at c.in-Some.ensures.1 c.in-Some.ensures.0)

pub returns-in-None : goal.returns-in-None
returns-in-None c =
    c.flags-in-None.ensures ∙ ap flags_of (side_over c.args.self.now c.self.inside c.self.view_is c.self.invariant c.args.side c.requires
    c.left.result.now c.left.ensures)
