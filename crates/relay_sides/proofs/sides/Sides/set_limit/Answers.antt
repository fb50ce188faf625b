use Rattle.std.proofs.Common.{refl}
use Rattle.relay_sides.proofs.FlagLemmas.{are_sound}
use Rattle.relay_sides.proofs.LimitLemmas.{later-found, limit_counted, limit_lasting, limit_set}
use Rattle.relay_sides.proofs.sides.Sides.set_limit.Goals as goal

pub set_of-requires-clause-later : goal.set_of-requires-clause-later
set_of-requires-clause-later c =
    later-found c.args.self.now c.self.inside c.self.view_is c.self.invariant c.args.side c.requires.opened c.number.result c.number.ensures
    c.index_mut-own.result.now c.index_mut-own.ensures.value c.args.time c.requires.later

pub invariant_of-self : goal.invariant_of-self
invariant_of-self c =
    let v = c.args.self.now in
    let r = c.self.inside in
    let x = c.index_mut-own.result.now in
    are_sound r _ c.self.invariant refl refl refl
    (limit_lasting v r c.self.view_is c.self.invariant c.args.side c.requires.opened c.number.result c.number.ensures x
    c.index_mut-own.ensures.value c.set_of.new.limit)
    (limit_counted v r c.self.view_is c.self.invariant c.args.side c.requires.opened c.number.result c.number.ensures x
    c.index_mut-own.ensures.value c.set_of.new.limit)

pub returns-clause-links : goal.returns-clause-links
returns-clause-links c =
    limit_set c.args.self.now c.self.inside c.self.view_is c.self.invariant c.args.side c.requires.opened c.number.result c.number.ensures
    c.index_mut-own.result.now c.index_mut-own.ensures.value c.set_of.new.limit c.args.cfg c.args.time c.args.turn c.set_of.ensures.limit
