use Rattle.std.proofs.Common.{false, refl}
use Rattle.relay_sides.proofs.FlagLemmas.{are_sound, state_links, state_counted, state_lasting}
use Rattle.relay_sides.proofs.sides.Sides.connected.Goals as goal

pub invariant_of-self : goal.invariant_of-self
invariant_of-self c =
    are_sound c.self.inside _ c.self.invariant refl refl refl
    (state_lasting c.args.self.now c.self.inside c.self.view_is c.self.invariant c.args.side c.requires c.number.result c.number.ensures
    c.index_mut-own.result.now _ c.index_mut-own.ensures.value refl)
    (state_counted c.args.self.now c.self.inside c.self.view_is c.self.invariant c.args.side c.requires c.number.result c.number.ensures
    c.index_mut-own.result.now _ c.index_mut-own.ensures.value refl)

pub returns : goal.returns
returns c =
    state_links c.args.self.now c.self.inside c.self.view_is c.self.invariant c.args.side c.requires c.number.result c.number.ensures
    c.index_mut-own.result.now _ c.index_mut-own.ensures.value refl (λ x. record x { connecting = false }) (λ z. refl)
