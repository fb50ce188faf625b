use Rattle.std.proofs.Common.{refl, sym, subst}
use Rattle.relay_sides.specs.KeptLimits.{IsAllowed}
use Rattle.relay_sides.proofs.LimitLemmas.{allowance-found, later-found, limit_sound, limit_spent}
use Rattle.relay_sides.proofs.sides.Sides.spend.Goals as goal

pub spend_of-requires-clause-later : goal.spend_of-requires-clause-later
spend_of-requires-clause-later c =
    later-found c.args.self.now c.self.inside c.self.view_is c.self.invariant c.args.side c.requires.opened c.number.result c.number.ensures
    c.index_mut-own.result.now c.index_mut-own.ensures.value c.args.time c.requires.later

pub spend_of-requires-clause-within : goal.spend_of-requires-clause-within
spend_of-requires-clause-within c =
    subst (λ z. IsAllowed c.args.count z)
    (sym (allowance-found c.args.self.now c.self.inside c.self.view_is c.self.invariant c.args.side c.requires.opened c.number.result
    c.number.ensures c.index_mut-own.result.now c.index_mut-own.ensures.value c.args.dir c.args.time))
    c.requires.within

pub invariant_of-self : goal.invariant_of-self
invariant_of-self c =
    limit_sound c.args.self.now c.self.inside c.self.view_is c.self.invariant c.args.side c.requires.opened c.number.result c.number.ensures
    c.index_mut-own.result.now c.index_mut-own.ensures.value c.spend_of.new.limit _ refl

pub returns-clause-links : goal.returns-clause-links
returns-clause-links c =
    limit_spent c.args.self.now c.self.inside c.self.view_is c.self.invariant c.args.side c.requires.opened c.number.result c.number.ensures
    c.index_mut-own.result.now c.index_mut-own.ensures.value c.spend_of.new.limit c.args.dir c.args.count c.args.time c.spend_of.ensures
