use Rattle.std.proofs.Common.{◌/◌, true, false, nat_le, length, if◌then◌else◌, refl, ap, sym, subst, ◌∙◌}
use Rattle.ev_types.specs.Sides.{number}
use Rattle.relay_state.specs.State.{Lane}
use Rattle.relay_state.specs.Passage.{hold_part}
use Rattle.relay_sides.specs.Bevs.{Bevs, bevs_at, twin}
use Rattle.relay_sides.specs.SideView.{state_at, flow_of, lane_of, limit_kept}
use Rattle.relay_sides.specs.SidesView.{IsCounted}
use Rattle.relay_sides.specs.declared.side.SideState.{SideState}
use Rattle.relay_sides.proofs.BevsLemmas.{number-lt}
use Rattle.relay_sides.proofs.SidesLemmas.{pairs_seen, here, lane_seen}
use Rattle.relay_sides.proofs.FlagLemmas.{are_sound}
use Rattle.relay_sides.proofs.PartLemmas.{passage_by, unflawed, part_links, part_counted}
use Rattle.relay_sides.proofs.LinkLemmas.{own_found, own_link, own_lasting}
use Rattle.relay_sides.proofs.sides.Sides.hold_back.Goals as goal

pub invariant_of-self : goal.invariant_of-self
invariant_of-self c =
    let v = c.args.self.now in
    let r = c.self.inside in
    let e = c.args.from in
    let b : Bevs = bevs_at r.world.slots (number e) in
    let d : Bevs = bevs_at r.world.slots (twin (number e)) in
    let x = c.index_mut-own.result.now in
    let y : SideState = record x { held = c.is_held-own.result } in
    let x_is = own_found v r c.self.view_is c.self.invariant e c.requires c.number.result c.number.ensures x c.index_mut-own.ensures.value in
    let h = subst (λ z. IsCounted (flow_of b d z) (lane_of b d z)) (sym x_is)
    (c.self.invariant.counted (number e) (number-lt e r.opened (here v r c.self.view_is e c.requires))) in
    are_sound r _ c.self.invariant refl refl refl
    (own_lasting v r c.self.view_is c.self.invariant e c.requires c.number.result c.number.ensures y)
    (part_counted v r c.self.view_is e c.requires r.world.slots _ b d y (state_at r.sides.items (twin (number e)))
    (own_link v r c.self.view_is c.self.invariant e c.requires c.number.result c.number.ensures y) refl refl refl
    (ap limit_kept x_is) c.self.invariant
    (record { used = h.used; moved = h.moved; turned = h.turned; given = h.given }))

pub returns-clause-links : goal.returns-clause-links
returns-clause-links c =
    let v = c.args.self.now in
    let r = c.self.inside in
    let e = c.args.from in
    let hold = c.args.hold in
    let b : Bevs = bevs_at r.world.slots (number e) in
    let d : Bevs = bevs_at r.world.slots (twin (number e)) in
    let o = state_at r.sides.items (twin (number e)) in
    let x = c.index_mut-own.result.now in
    let y : SideState = record x { held = c.is_held-own.result } in
    let x_is = own_found v r c.self.view_is c.self.invariant e c.requires c.number.result c.number.ensures x c.index_mut-own.ensures.value in
    let w = c.raw_output_len-waiting.ensures ∙ ap (λ (z : Lane). length z.buffers.raw_output) (lane_seen v r c.self.view_is e c.requires) in
    let held = c.is_held-own.ensures
    ∙ (λ i. if nat_le hold (w i) then true else (if nat_le (w i) (hold / 2) then false else (x_is i).held)) in
    part_links v r c.self.view_is e c.requires r.world.slots _ b d y o
    (own_link v r c.self.view_is c.self.invariant e c.requires c.number.result c.number.ensures y) refl refl refl (ap limit_kept x_is)
    (hold_part hold)
    (ap (unflawed b) x_is) refl
    (λ i. (let z = x_is i in passage_by b d (record z { held = held i }) o))

pub returns-clause-pairs : goal.returns-clause-pairs
returns-clause-pairs c = pairs_seen c.args.self.now c.self.inside c.self.view_is
