use Rattle.std.proofs.Common.{◌≡◌, true, None, if◌then◌else◌, ap, sym, refl, ◌∙◌}
use Rattle.ev_types.specs.Sides.{number}
use Rattle.relay_model.specs.Plain.{PlainSide}
use Rattle.relay_sides.specs.Bevs.{bevs_at}
use Rattle.relay_sides.specs.SideView.{plain_side}
use Rattle.relay_sides.proofs.SidesLemmas.{side_seen}
use Rattle.relay_sides.proofs.FlagLemmas.{are_sound, state_links_here, state_counted, state_lasting}
use Rattle.relay_sides.proofs.sides.Sides.set_group.Goals as goal

pub invariant_of-self : goal.invariant_of-self
invariant_of-self c =
    are_sound c.self.inside _ c.self.invariant refl refl refl
    (state_lasting c.args.self.now c.self.inside c.self.view_is c.self.invariant c.args.side c.requires.opened c.number.result
    c.number.ensures c.index_mut-own.result.now _ c.index_mut-own.ensures.value refl)
    (state_counted c.args.self.now c.self.inside c.self.view_is c.self.invariant c.args.side c.requires.opened c.number.result
    c.number.ensures c.index_mut-own.result.now _ c.index_mut-own.ensures.value refl)

pub returns : goal.returns
returns c =
    let r = c.self.inside in
    let e = c.args.side in
    let x = c.index_mut-own.result.now in
    let b = (bevs_at r.world.slots (number e)).lower.bev in
    let live : b.live ≡ true =
    ap (λ (z : PlainSide). z.live) (sym (side_seen c.args.self.now r c.self.view_is e c.requires.opened)) ∙ c.requires.live in
    state_links_here c.args.self.now r c.self.view_is c.self.invariant e c.requires.opened c.number.result c.number.ensures
    x _ c.index_mut-own.ensures.value refl (λ z. record z { group = c.args.group })
    (ap (λ k. (let z : PlainSide = plain_side b x in record z { group = if k then c.args.group else None })) live)
