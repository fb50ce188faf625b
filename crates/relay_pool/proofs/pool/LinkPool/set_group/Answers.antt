use Rattle.std.proofs.Common.{◌≡◌, true, sym, subst}
use Rattle.relay_sides.specs.Links.{change_side}
use Rattle.relay_pool.proofs.CallLemmas.{lifts_change}
use Rattle.relay_model.specs.Plain.{PlainSide}
use Rattle.relay_pool.proofs.BayLemmas.{bay_live, below_met, links_bay, side_met}
use Rattle.relay_pool.proofs.pool.LinkPool.set_group.Goals as goal

pub at-requires-clause-there : goal.at-requires-clause-there
at-requires-clause-there c =
    bay_live c.args.self.now c.self.inside c.self.view_is c.self.invariant c.args.side c.requires.opened c.requires.live

pub set_group-requires-clause-opened : goal.set_group-requires-clause-opened
set_group-requires-clause-opened c =
    below_met c.args.self.now c.self.inside c.self.view_is c.self.invariant c.args.side c.requires.opened c.at.result c.at.ensures
    (bay_live c.args.self.now c.self.inside c.self.view_is c.self.invariant c.args.side c.requires.opened c.requires.live)

pub set_group-requires-clause-live : goal.set_group-requires-clause-live
set_group-requires-clause-live c =
    subst (λ (x : PlainSide). x.live ≡ true) (sym (side_met c.args.self.now c.self.inside c.self.view_is c.self.invariant c.args.side
    c.requires.opened c.at.result c.at.ensures (bay_live c.args.self.now c.self.inside c.self.view_is c.self.invariant c.args.side
    c.requires.opened c.requires.live))) c.requires.live

pub returns-clause-links : goal.returns-clause-links
returns-clause-links c =
    links_bay c.args.self.now c.self.inside c.self.view_is c.self.invariant c.args.side c.requires.opened c.at.result c.at.ensures
    (bay_live c.args.self.now c.self.inside c.self.view_is c.self.invariant c.args.side c.requires.opened c.requires.live)
    (λ e k. change_side e (λ x. record x { group = c.args.group }) k) (lifts_change (λ x. record x { group = c.args.group }))
    c.set_group.new.self.links c.set_group.ensures
