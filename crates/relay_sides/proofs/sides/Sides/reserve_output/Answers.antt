use Rattle.std.proofs.Common.{◌≤◌, refl, sym, ◌∙◌, ap, subst, arith}
use Rattle.std.specs.Prelude.{vec_capacity}
use Rattle.ev_types.specs.Sides.{number, peer}
use Rattle.token_bucket.specs.declared.limit.Dir.TheVariants.{Write}
use Rattle.bev_world.specs.ByNumber.{with_spare_in}
use Rattle.bev_world.specs.WorldValue.{WorldValue, bev_at}
use Rattle.relay_sides.specs.Bevs.{lower_of, upper_of, twin}
use Rattle.relay_sides.specs.Rooms.{input_room}
use Rattle.relay_sides.specs.SidesValue.{SidesValue}
use Rattle.relay_sides.specs.SideView.{state_at}
use Rattle.relay_sides.proofs.BevsLemmas.{number-lt}
use Rattle.relay_sides.proofs.SidesLemmas.{here, state_found, peer_number}
use Rattle.relay_sides.proofs.RoomLemmas.{quiet_links, quiet_sound, sound_unread, lower_spared, lower_leaves_upper, input_room_is}
use Rattle.relay_sides.proofs.RoomLemmas.{has_output_room, output_step_room}
use Rattle.relay_sides.proofs.sides.Sides.reserve_output.Goals as goal

pub invariant_of-self : goal.invariant_of-self
invariant_of-self c =
    let r = c.self.inside in
    let e = c.args.from in
    let p = c.peer-to.result in
    let w = c.reserve_step_at.new.self in
    let lt = number-lt (peer e) r.opened (here c.args.self.now r c.self.view_is e c.requires) in
    let q = lower_spared r.world w (number p) c.lower.result (bev_at w c.lower.result).output.spare c.lower.ensures
    (omega (arith, lt, ap number c.peer-to.ensures, c.self.invariant.slots)) c.reserve_step_at.ensures.stays in
    let s = quiet_sound r.world.slots w.slots r.sides.items q r c.self.invariant refl refl in
    sound_unread _ s (ap (λ (z : WorldValue). z.chunked) c.reserve_step_at.ensures.stays ∙ c.self.invariant.one_piece) refl

pub returns-in_err-reserve_step_at-clause-links : goal.returns-in_err-reserve_step_at-clause-links
returns-in_err-reserve_step_at-clause-links c =
    let r = c.self.inside in
    let e = c.args.from in
    let p = c.peer-to.result in
    let w = c.reserve_step_at.new.self in
    let lt = number-lt (peer e) r.opened (here c.args.self.now r c.self.view_is e c.requires) in
    let q = lower_spared r.world w (number p) c.lower.result (bev_at w c.lower.result).output.spare c.lower.ensures
    (omega (arith, lt, ap number c.peer-to.ensures, c.self.invariant.slots)) c.reserve_step_at.ensures.stays in
    quiet_links r.world.slots w.slots r.sides.items q r.opened ∙ ap (λ (z : SidesValue). z.links) c.self.view_is

pub returns-in_err-reserve_step_at-clause-kept : goal.returns-in_err-reserve_step_at-clause-kept
returns-in_err-reserve_step_at-clause-kept c =
    let r = c.self.inside in
    let e = c.args.from in
    let w = c.reserve_step_at.new.self in
    let h = here c.args.self.now r c.self.view_is e c.requires in
    let same = lower_leaves_upper r.world w (number c.peer-to.result) c.lower.result
    (with_spare_in (bev_at r.world c.lower.result) Write (bev_at w c.lower.result).output.spare) c.lower.ensures
    c.reserve_step_at.ensures.stays (number e) in
    record {
      input = input_room_is r.opened w.slots r.sides.items e h (vec_capacity c.reserve_step_at.new.beside)
          ∙ ap (λ z. z.bev.input.spare) same
          ∙ sym (input_room_is r.opened r.world.slots r.sides.items e h (vec_capacity r.beside))
          ∙ ap (λ (z : SidesValue). input_room z.rooms e) c.self.view_is;
      beside = subst (λ (z : SidesValue). z.rooms.beside
          ≤ vec_capacity c.reserve_step_at.new.beside) c.self.view_is c.reserve_step_at.ensures.beside;
    }

pub invariant_of-self-2 : goal.invariant_of-self-2
invariant_of-self-2 c =
    let r = c.self.inside in
    let e = c.args.from in
    let p = c.peer-to.result in
    let w = c.reserve_step_at.new.self in
    let lt = number-lt (peer e) r.opened (here c.args.self.now r c.self.view_is e c.requires) in
    let q = lower_spared r.world w (number p) c.lower.result (bev_at w c.lower.result).output.spare c.lower.ensures
    (omega (arith, lt, ap number c.peer-to.ensures, c.self.invariant.slots)) c.reserve_step_at.ensures.stays in
    let s = quiet_sound r.world.slots w.slots r.sides.items q r c.self.invariant refl refl in
    sound_unread _ s (ap (λ (z : WorldValue). z.chunked) c.reserve_step_at.ensures.stays ∙ c.self.invariant.one_piece) refl

pub returns-clause-links : goal.returns-clause-links
returns-clause-links c =
    let r = c.self.inside in
    let e = c.args.from in
    let p = c.peer-to.result in
    let w = c.reserve_step_at.new.self in
    let lt = number-lt (peer e) r.opened (here c.args.self.now r c.self.view_is e c.requires) in
    let q = lower_spared r.world w (number p) c.lower.result (bev_at w c.lower.result).output.spare c.lower.ensures
    (omega (arith, lt, ap number c.peer-to.ensures, c.self.invariant.slots)) c.reserve_step_at.ensures.stays in
    quiet_links r.world.slots w.slots r.sides.items q r.opened ∙ ap (λ (z : SidesValue). z.links) c.self.view_is

pub returns-clause-room : goal.returns-clause-room
returns-clause-room c =
    let r = c.self.inside in
    let e = c.args.from in
    let w = c.reserve_step_at.new.self in
    let h = here c.args.self.now r c.self.view_is e c.requires in
    let lt = number-lt e r.opened h in
    let t = peer_number e c.peer-to.result c.peer-to.ensures in
    let s = state_found r.sides.items (number e) c.number.result c.index.result.now c.number.ensures c.index.ensures
    (omega (arith, lt, c.self.invariant.sides)) in
    has_output_room r.opened w.slots r.sides.items e h c.args.hold c.args.count (vec_capacity c.reserve_step_at.new.beside)
    (output_step_room w (twin (number e)) c.upper.result c.lower.result c.args.count c.index.result.now.write_made
    (state_at r.sides.items (number e)).write_made c.args.hold (vec_capacity c.reserve_step_at.new.beside)
    (c.upper.ensures ∙ ap upper_of t) (c.lower.ensures ∙ ap lower_of t) (ap (λ z. z.write_made) s) c.in_ok-reserve_step_at.ensures.room)

pub returns-clause-kept : goal.returns-clause-kept
returns-clause-kept c =
    let r = c.self.inside in
    let e = c.args.from in
    let w = c.reserve_step_at.new.self in
    let h = here c.args.self.now r c.self.view_is e c.requires in
    let same = lower_leaves_upper r.world w (number c.peer-to.result) c.lower.result
    (with_spare_in (bev_at r.world c.lower.result) Write (bev_at w c.lower.result).output.spare) c.lower.ensures
    c.reserve_step_at.ensures.stays (number e) in
    record {
      input = input_room_is r.opened w.slots r.sides.items e h (vec_capacity c.reserve_step_at.new.beside)
          ∙ ap (λ z. z.bev.input.spare) same
          ∙ sym (input_room_is r.opened r.world.slots r.sides.items e h (vec_capacity r.beside))
          ∙ ap (λ (z : SidesValue). input_room z.rooms e) c.self.view_is;
      beside = subst (λ (z : SidesValue). z.rooms.beside
          ≤ vec_capacity c.reserve_step_at.new.beside) c.self.view_is c.reserve_step_at.ensures.beside;
    }
