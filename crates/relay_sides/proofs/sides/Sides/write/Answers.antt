use Rattle.std.proofs.Common.{length, refl, ap, sym, subst, ◌∙◌, vec_capacity, arith}
use Rattle.token_bucket.specs.declared.limit.Dir.TheVariants.{Write}
use Rattle.ev_types.specs.Sides.{number}
use Rattle.filter_model.specs.Filter.{or_else}
use Rattle.filter_model.specs.Running.{Running}
use Rattle.relay_state.specs.State.{Lane}
use Rattle.bev_filter.specs.StepRoom.{HasStepRoom}
use Rattle.bev_world.specs.WorldValue.{WorldValue, slot_at}
use Rattle.relay_sides.specs.Bevs.{bevs_at, lower_of, upper_of, twin}
use Rattle.relay_sides.specs.SideView.{state_at}
use Rattle.relay_sides.specs.declared.side.SideState.{SideState}
use Rattle.relay_sides.proofs.BevsLemmas.{number-lt}
use Rattle.relay_sides.proofs.SidesLemmas.{here, lane_seen, peer_number}
use Rattle.relay_sides.proofs.FlagLemmas.{are_sound}
use Rattle.relay_sides.proofs.LinkLemmas.{own_found}
use Rattle.relay_sides.proofs.FilterLemmas.{went}
use Rattle.relay_sides.proofs.StepDone.{write_links, write_lasting, write_fits}
use Rattle.relay_sides.proofs.RoomFound.{output_room_found}
use Rattle.relay_sides.proofs.sides.Sides.write.Goals as goal

pub step_at-own-requires-clause-counted : goal.step_at-own-requires-clause-counted
step_at-own-requires-clause-counted c =
    let r = c.self.inside in
    let e = c.args.from in
    let x = c.index_mut-own.result.now in
    let same = peer_number e c.peer-to.result c.peer-to.ensures in
    let up = c.upper.ensures ∙ ap upper_of same in
    let x_is = own_found c.args.self.now c.self.inside c.self.view_is c.self.invariant c.args.from c.requires.opened c.number.result c.number.ensures x
    c.index_mut-own.ensures.value in
    let moved = ap (λ (s : SideState). s.moved) x_is in
    let h = c.self.invariant.counted (number e) (number-lt e r.opened (here c.args.self.now r c.self.view_is e c.requires.opened)) in
    let used = ap (λ a. (slot_at r.world a).write_filter.used) up in
    let held = ap (λ a. length (slot_at r.world a).bev.output.bytes) up in
    omega (arith, h.turned, moved, used, held)

pub step_at-own-requires-clause-room : goal.step_at-own-requires-clause-room
step_at-own-requires-clause-room c =
    let v = c.args.self.now in
    let r = c.self.inside in
    let e = c.args.from in
    let t = twin (number e) in
    let x = c.index_mut-own.result.now in
    let same = peer_number e c.peer-to.result c.peer-to.ensures in
    let up = c.upper.ensures ∙ ap upper_of same in
    let lo = c.lower.ensures ∙ ap lower_of same in
    let x_is = own_found c.args.self.now c.self.inside c.self.view_is c.self.invariant c.args.from c.requires.opened c.number.result c.number.ensures x
    c.index_mut-own.ensures.value in
    let count = ap (λ (l : Lane). length l.buffers.output) (lane_seen v r c.self.view_is e c.requires.opened) in
    let h = output_room_found v r c.self.view_is e c.requires.opened c.args.hold _ c.requires.room in
    subst (λ a. HasStepRoom (slot_at r.world a).write_filter.kind (length (slot_at r.world a).bev.output.bytes)
    (length (slot_at r.world c.lower.result).bev.output.bytes) c.args.hold (slot_at r.world c.lower.result).bev.output.spare
    (vec_capacity r.beside)
    x.write_made) (sym up)
    (subst (λ u. HasStepRoom (slot_at r.world (upper_of t)).write_filter.kind (length (slot_at r.world (upper_of t)).bev.output.bytes)
    (length (slot_at r.world u).bev.output.bytes) c.args.hold (slot_at r.world u).bev.output.spare (vec_capacity r.beside)
    x.write_made) (sym lo)
    (subst (λ (s : SideState). (let b = bevs_at r.world.slots t in
    HasStepRoom b.upper.write_filter.kind (length b.upper.bev.output.bytes)
    (length b.lower.bev.output.bytes) c.args.hold b.lower.bev.output.spare
    (vec_capacity r.beside) s.write_made)) (sym x_is)
    (subst (λ k. (let b = bevs_at r.world.slots t in
    HasStepRoom b.upper.write_filter.kind k (length b.lower.bev.output.bytes) c.args.hold b.lower.bev.output.spare
    (vec_capacity r.beside) (state_at r.sides.items (number e)).write_made)) count h)))

pub invariant_of-self : goal.invariant_of-self
invariant_of-self c =
    let e = c.args.from in
    let n = number e in
    let t = twin (number e) in
    let x = c.index_mut-own.result.now in
    let z = c.index_mut-other.result.now in
    let w = c.step_at-own.new.self in
    let same = peer_number e c.peer-to.result c.peer-to.ensures in
    let up = c.upper.ensures ∙ ap upper_of same in
    let lo = c.lower.ensures ∙ ap lower_of same in
    let g = went Write t c.args.hold c.args.over c.self.inside.world w x.write_made c.step_at-own.result c.upper.result c.lower.result
    up lo c.step_at-own.ensures.crossed c.step_at-own.ensures.world c.step_at-own.ensures.made in
    let bad = c.first_place-other.ensures
    ∙ ap (or_else z.bad) (c.stopped-stopped.ensures ∙ ap (λ (f : Running). f.stopped) (c.filter.ensures
    ∙ ap (λ a. (slot_at w a).write_filter) (c.upper-2.ensures ∙ ap upper_of same))) in
    are_sound c.self.inside _ c.self.invariant refl refl (ap (λ (z : WorldValue). z.chunked) c.step_at-own.ensures.world)
    (write_lasting c.args.self.now c.self.inside c.self.view_is c.self.invariant c.args.from c.requires.opened c.number.result
    c.number.ensures x c.index_mut-own.ensures.value c.args.hold c.args.over w c.step_at-own.result c.first_place-other.result g
    c.number-2.result (c.number-2.ensures ∙ same) z c.index_mut-other.ensures.value bad)
    (write_fits c.args.self.now c.self.inside c.self.view_is c.self.invariant c.args.from c.requires.opened c.number.result
    c.number.ensures x c.index_mut-own.ensures.value c.args.hold c.args.over w c.step_at-own.result c.first_place-other.result g
    c.number-2.result (c.number-2.ensures ∙ same) z c.index_mut-other.ensures.value bad)

pub returns : goal.returns
returns c =
    let e = c.args.from in
    let n = number e in
    let t = twin (number e) in
    let x = c.index_mut-own.result.now in
    let z = c.index_mut-other.result.now in
    let w = c.step_at-own.new.self in
    let same = peer_number e c.peer-to.result c.peer-to.ensures in
    let up = c.upper.ensures ∙ ap upper_of same in
    let lo = c.lower.ensures ∙ ap lower_of same in
    let g = went Write t c.args.hold c.args.over c.self.inside.world w x.write_made c.step_at-own.result c.upper.result c.lower.result
    up lo c.step_at-own.ensures.crossed c.step_at-own.ensures.world c.step_at-own.ensures.made in
    let bad = c.first_place-other.ensures
    ∙ ap (or_else z.bad) (c.stopped-stopped.ensures ∙ ap (λ (f : Running). f.stopped) (c.filter.ensures
    ∙ ap (λ a. (slot_at w a).write_filter) (c.upper-2.ensures ∙ ap upper_of same))) in
    write_links c.args.self.now c.self.inside c.self.view_is c.self.invariant c.args.from c.requires.opened c.number.result
    c.number.ensures x c.index_mut-own.ensures.value c.args.hold c.args.over w c.step_at-own.result c.first_place-other.result g
    c.number-2.result (c.number-2.ensures ∙ same) z c.index_mut-other.ensures.value bad
