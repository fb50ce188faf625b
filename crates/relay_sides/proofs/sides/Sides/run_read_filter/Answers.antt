use Rattle.std.proofs.Common.{◌*◌, ◌≤◌, length, refl, ap, sym, subst, ◌∙◌, vec_capacity}
use Rattle.token_bucket.specs.declared.limit.Dir.TheVariants.{Read}
use Rattle.ev_types.specs.Sides.{number}
use Rattle.filter_model.specs.Filter.{or_else}
use Rattle.filter_model.specs.Running.{Running}
use Rattle.bev_filter.specs.StepRoom.{HasStepRoom}
use Rattle.bev_world.specs.WorldValue.{WorldValue, slot_at}
use Rattle.relay_sides.specs.Bevs.{Bevs, bevs_at, upper_of, twin}
use Rattle.relay_sides.specs.SidesValue.{SidesValue}
use Rattle.relay_sides.specs.declared.side.SideState.{SideState}
use Rattle.relay_sides.proofs.TableLemmas.{get-tabulate}
use Rattle.relay_sides.proofs.BevsLemmas.{number-lt, twin-apart}
use Rattle.relay_sides.proofs.SidesLemmas.{here}
use Rattle.relay_sides.proofs.FlagLemmas.{are_sound, upper_there}
use Rattle.relay_sides.proofs.LinkLemmas.{own_found}
use Rattle.relay_sides.proofs.FilterLemmas.{went, read-other}
use Rattle.relay_sides.proofs.StepDone.{read_links, read_lasting, read_fits}
use Rattle.relay_sides.proofs.RoomFound.{input_room_found, raw_output_room_seen}
use Rattle.relay_sides.proofs.sides.Sides.run_read_filter.Goals as goal

pub step_at-own-requires-clause-room : goal.step_at-own-requires-clause-room
step_at-own-requires-clause-room c =
    let v = c.args.self.now in
    let r = c.self.inside in
    let e = c.args.from in
    let x = c.index_mut-own.result.now in
    let x_is = own_found v r c.self.view_is c.self.invariant e c.requires.opened c.number.result c.number.ensures x c.index_mut-own.ensures.value in
    let h = input_room_found v r c.self.view_is e c.requires.opened c.args.mark c.requires.room in
    subst (λ a. HasStepRoom (slot_at r.world a).read_filter.kind (length (slot_at r.world c.lower.result).bev.input.bytes)
    (length (slot_at r.world a).bev.input.bytes) c.args.mark (slot_at r.world a).bev.input.spare (vec_capacity r.beside) x.read_made)
    (sym c.upper.ensures)
    (subst (λ u. HasStepRoom (slot_at r.world (upper_of (number e))).read_filter.kind (length (slot_at r.world u).bev.input.bytes)
    (length (slot_at r.world (upper_of (number e))).bev.input.bytes) c.args.mark (slot_at r.world (upper_of (number e))).bev.input.spare
    (vec_capacity r.beside) x.read_made) (sym c.lower.ensures)
    (subst (λ (z : SideState). (let b = bevs_at r.world.slots (number e) in
    HasStepRoom b.upper.read_filter.kind (length b.lower.bev.input.bytes)
    (length b.upper.bev.input.bytes) c.args.mark b.upper.bev.input.spare
    (vec_capacity r.beside) z.read_made)) (sym x_is) h))

pub invariant_of-self : goal.invariant_of-self
invariant_of-self c =
    let e = c.args.from in
    let x = c.index_mut-own.result.now in
    let w = c.step_at-own.new.self in
    let g = went Read (number e) c.args.mark c.args.ended c.self.inside.world w x.read_made c.step_at-own.result c.upper.result c.lower.result
    c.upper.ensures c.lower.ensures c.step_at-own.ensures.crossed c.step_at-own.ensures.world c.step_at-own.ensures.made in
    let bad = c.first_place-own.ensures ∙ ap (or_else x.bad) (c.stopped.ensures ∙ ap (λ (z : Running). z.stopped) (c.filter.ensures
    ∙ ap (λ a. (slot_at w a).read_filter) c.upper-2.ensures)) in
    are_sound c.self.inside _ c.self.invariant refl refl (ap (λ (z : WorldValue). z.chunked) c.step_at-own.ensures.world)
    (read_lasting c.args.self.now c.self.inside c.self.view_is c.self.invariant c.args.from c.requires.opened c.number.result
    c.number.ensures x c.index_mut-own.ensures.value c.args.mark c.args.ended w c.step_at-own.result c.first_place-own.result g bad)
    (read_fits c.args.self.now c.self.inside c.self.view_is c.self.invariant c.args.from c.requires.opened c.number.result
    c.number.ensures x c.index_mut-own.ensures.value c.args.mark c.args.ended w c.step_at-own.result c.first_place-own.result g bad)

pub returns-clause-links : goal.returns-clause-links
returns-clause-links c =
    let e = c.args.from in
    let x = c.index_mut-own.result.now in
    let w = c.step_at-own.new.self in
    let g = went Read (number e) c.args.mark c.args.ended c.self.inside.world w x.read_made c.step_at-own.result c.upper.result c.lower.result
    c.upper.ensures c.lower.ensures c.step_at-own.ensures.crossed c.step_at-own.ensures.world c.step_at-own.ensures.made in
    let bad = c.first_place-own.ensures ∙ ap (or_else x.bad) (c.stopped.ensures ∙ ap (λ (z : Running). z.stopped) (c.filter.ensures
    ∙ ap (λ a. (slot_at w a).read_filter) c.upper-2.ensures)) in
    read_links c.args.self.now c.self.inside c.self.view_is c.self.invariant c.args.from c.requires.opened c.number.result
    c.number.ensures x c.index_mut-own.ensures.value c.args.mark c.args.ended w c.step_at-own.result c.first_place-own.result g bad

pub returns-clause-rooms : goal.returns-clause-rooms
returns-clause-rooms c =
    let e = c.args.from in
    let x = c.index_mut-own.result.now in
    let w = c.step_at-own.new.self in
    let g = went Read (number e) c.args.mark c.args.ended c.self.inside.world w x.read_made c.step_at-own.result c.upper.result c.lower.result
    c.upper.ensures c.lower.ensures c.step_at-own.ensures.crossed c.step_at-own.ensures.world c.step_at-own.ensures.made in
    let bad = c.first_place-own.ensures ∙ ap (or_else x.bad) (c.stopped.ensures ∙ ap (λ (z : Running). z.stopped) (c.filter.ensures
    ∙ ap (λ a. (slot_at w a).read_filter) c.upper-2.ensures)) in
    let r = c.self.inside in
    let t = twin (number e) in
    let long = upper_there c.args.self.now c.self.inside c.self.view_is c.self.invariant c.args.from c.requires.opened in
    record {
      raw_output = get-tabulate (λ m. (bevs_at w.slots (twin m)).lower.bev.output.spare) (2 * r.opened) (number e) 0
          (number-lt e r.opened (here c.args.self.now r c.self.view_is e c.requires.opened))
          ∙ ap (λ (z : Bevs). z.lower.bev.output.spare)
          (read-other r.world w (number e) c.args.mark c.args.ended x.read_made c.step_at-own.result g long t (twin-apart (number e)))
          ∙ sym (raw_output_room_seen c.args.self.now r c.self.view_is e c.requires.opened);
      beside = subst (λ (z : SidesValue). z.rooms.beside
          ≤ vec_capacity c.step_at-own.new.beside) c.self.view_is c.step_at-own.ensures.beside;
    }
