use Rattle.std.proofs.Common.{◌∙◌, ap, sym}
use Rattle.relay_model.specs.Plain.{PlainSide}
use Rattle.relay_pool.proofs.BayLemmas.{live_over, side_met}
use Rattle.relay_pool.proofs.pool.LinkPool.is_live.Goals as goal

pub returns-in-Some : goal.returns-in-Some
returns-in-Some c =
    c.is_live.ensures ∙ ap (λ (x : PlainSide). x.live) (side_met c.args.self.now c.self.inside c.self.view_is c.self.invariant
    c.args.side c.requires c.in-Some.at c.in-Some.ensures.1 c.in-Some.ensures.0)

pub returns-in-None : goal.returns-in-None
returns-in-None c = sym (live_over c.args.self.now c.self.inside c.self.view_is c.self.invariant c.args.side c.requires c.in-None.ensures)
