use Rattle.std.proofs.Common.{◌-◌, ◌<◌, sym, subst}
use Rattle.relay_sides.specs.Links.{change_side}
use Rattle.relay_pool.proofs.CallLemmas.{lifts_change}
use Rattle.relay_model.specs.Plain.{PlainSide}
use Rattle.relay_pool.proofs.BayLemmas.{bay_held, below_met, links_bay, side_met}
use Rattle.relay_pool.proofs.pool.LinkPool.decref.Goals as goal

pub at-requires-clause-there : goal.at-requires-clause-there
at-requires-clause-there c =
    bay_held c.args.self.now c.self.inside c.self.view_is c.self.invariant c.args.side c.requires.opened c.requires.some

pub decref-requires-clause-opened : goal.decref-requires-clause-opened
decref-requires-clause-opened c =
    below_met c.args.self.now c.self.inside c.self.view_is c.self.invariant c.args.side c.requires.opened c.at.result c.at.ensures
    (bay_held c.args.self.now c.self.inside c.self.view_is c.self.invariant c.args.side c.requires.opened c.requires.some)

pub decref-requires-clause-some : goal.decref-requires-clause-some
decref-requires-clause-some c =
    subst (λ (x : PlainSide). 0 < x.references) (sym (side_met c.args.self.now c.self.inside c.self.view_is c.self.invariant c.args.side
    c.requires.opened c.at.result c.at.ensures (bay_held c.args.self.now c.self.inside c.self.view_is c.self.invariant c.args.side
    c.requires.opened c.requires.some))) c.requires.some

pub returns-clause-links : goal.returns-clause-links
returns-clause-links c =
    links_bay c.args.self.now c.self.inside c.self.view_is c.self.invariant c.args.side c.requires.opened c.at.result c.at.ensures
    (bay_held c.args.self.now c.self.inside c.self.view_is c.self.invariant c.args.side c.requires.opened c.requires.some)
    (λ e k. change_side e (λ x. record x { references = x.references - 1 }) k) (lifts_change (λ x. record x {
      references = x.references -
          1;
    })) c.decref.new.self.links c.decref.ensures
