use Rattle.std.proofs.Common.{◌+◌, ◌-◌, ◌^◌, ◌<◌, sym, subst}
use Rattle.relay_sides.specs.Links.{change_side}
use Rattle.relay_pool.proofs.CallLemmas.{lifts_change}
use Rattle.relay_model.specs.Plain.{PlainSide}
use Rattle.relay_pool.proofs.BayLemmas.{bay_open, below_met, links_bay, side_met}
use Rattle.relay_pool.proofs.pool.LinkPool.incref.Goals as goal

pub at-requires-clause-there : goal.at-requires-clause-there
at-requires-clause-there c =
    bay_open c.args.self.now c.self.inside c.self.view_is c.self.invariant c.args.side c.requires.opened c.requires.«open»

pub incref-requires-clause-opened : goal.incref-requires-clause-opened
incref-requires-clause-opened c =
    below_met c.args.self.now c.self.inside c.self.view_is c.self.invariant c.args.side c.requires.opened c.at.result c.at.ensures
    (bay_open c.args.self.now c.self.inside c.self.view_is c.self.invariant c.args.side c.requires.opened c.requires.«open»)

pub incref-requires-clause-few : goal.incref-requires-clause-few
incref-requires-clause-few c =
    subst (λ (x : PlainSide). x.references < 2 ^ 32 - 1) (sym (side_met c.args.self.now c.self.inside c.self.view_is c.self.invariant
    c.args.side c.requires.opened c.at.result c.at.ensures (bay_open c.args.self.now c.self.inside c.self.view_is c.self.invariant
    c.args.side c.requires.opened c.requires.«open»))) c.requires.few

pub returns-clause-links : goal.returns-clause-links
returns-clause-links c =
    links_bay c.args.self.now c.self.inside c.self.view_is c.self.invariant c.args.side c.requires.opened c.at.result c.at.ensures
    (bay_open c.args.self.now c.self.inside c.self.view_is c.self.invariant c.args.side c.requires.opened c.requires.«open»)
    (λ e k. change_side e (λ x. record x { references = x.references + 1 }) k) (lifts_change (λ x. record x {
      references = x.references +
          1;
    })) c.incref.new.self.links c.incref.ensures
