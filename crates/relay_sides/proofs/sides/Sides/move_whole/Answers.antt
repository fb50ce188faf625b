use Rattle.std.proofs.Common.{◌*◌, ◌≤◌, length, refl, ap, sym, subst, ◌∙◌, arith, vec_capacity}
use Rattle.std.proofs.lemmas.List.{nil_from_length}
use Rattle.ev_types.specs.Sides.{number}
use Rattle.relay_state.specs.State.{Lane}
use Rattle.bev_world.specs.WorldValue.{WorldValue, bev_at}
use Rattle.bev_world.specs.declared.slot.Slot.{Slot}
use Rattle.relay_sides.specs.Bevs.{bevs_at, upper_of, twin}
use Rattle.relay_sides.specs.SidesValue.{SidesValue}
use Rattle.relay_sides.proofs.TableLemmas.{get-tabulate}
use Rattle.relay_sides.proofs.BevsLemmas.{number-lt}
use Rattle.relay_sides.proofs.SidesLemmas.{here, lane_seen, peer_number}
use Rattle.relay_sides.proofs.FlagLemmas.{are_sound}
use Rattle.relay_sides.proofs.MoveLemmas.{move_links, move_lasting, move_bound, move_fits, move_lower}
use Rattle.relay_sides.proofs.RoomFound.{raw_output_room_seen}
use Rattle.relay_sides.proofs.sides.Sides.move_whole.Goals as goal

pub move_at-requires-clause-empty : goal.move_at-requires-clause-empty
move_at-requires-clause-empty c =
    let v = c.args.self.now in
    let r = c.self.inside in
    let e = c.args.from in
    let to_is = c.upper-2.ensures ∙ ap upper_of (peer_number e c.peer.result c.peer.ensures) in
    let empty = ap (λ (l : Lane). length l.buffers.output) (sym (lane_seen v r c.self.view_is e c.requires.opened)) ∙ c.requires.empty in
    ap (λ a. (bev_at r.world a).output.bytes) to_is
    ∙ nil_from_length (bevs_at r.world.slots (twin (number e))).upper.bev.output.bytes empty

pub overflow_add-own : goal.overflow_add-own
overflow_add-own c =
    let v = c.args.self.now in
    let r = c.self.inside in
    let e = c.args.from in
    let x = c.index_mut-own.result.now in
    let to_is = c.upper-2.ensures ∙ ap upper_of (peer_number e c.peer.result c.peer.ensures) in
    let empty = ap (λ (l : Lane). length l.buffers.output) (sym (lane_seen v r c.self.view_is e c.requires.opened)) ∙ c.requires.empty in
    let count_is = c.own_input_len-count.ensures
    ∙ ap (λ (l : Lane). length l.buffers.input) (lane_seen v r c.self.view_is e c.requires.opened) in
    omega (
      arith,
      move_bound c.args.self.now c.self.inside c.self.view_is c.self.invariant c.args.from c.requires.opened c.number.result
          c.number.ensures x c.index_mut-own.ensures.value c.upper.result c.upper-2.result c.upper.ensures to_is c.move_at.new.self c.move_at.ensures
          empty c.own_input_len-count.result count_is,
    )

pub invariant_of-self : goal.invariant_of-self
invariant_of-self c =
    let v = c.args.self.now in
    let r = c.self.inside in
    let e = c.args.from in
    let x = c.index_mut-own.result.now in
    let to_is = c.upper-2.ensures ∙ ap upper_of (peer_number e c.peer.result c.peer.ensures) in
    let empty = ap (λ (l : Lane). length l.buffers.output) (sym (lane_seen v r c.self.view_is e c.requires.opened)) ∙ c.requires.empty in
    let count_is = c.own_input_len-count.ensures
    ∙ ap (λ (l : Lane). length l.buffers.input) (lane_seen v r c.self.view_is e c.requires.opened) in
    are_sound r _ c.self.invariant refl refl (ap (λ (z : WorldValue). z.chunked) c.move_at.ensures)
    (move_lasting c.args.self.now c.self.inside c.self.view_is c.self.invariant c.args.from c.requires.opened c.number.result
    c.number.ensures x c.index_mut-own.ensures.value c.upper.result c.upper-2.result c.upper.ensures to_is c.move_at.new.self c.move_at.ensures
    empty c.own_input_len-count.result count_is)
    (move_fits c.args.self.now c.self.inside c.self.view_is c.self.invariant c.args.from c.requires.opened c.number.result
    c.number.ensures x c.index_mut-own.ensures.value c.upper.result c.upper-2.result c.upper.ensures to_is c.move_at.new.self c.move_at.ensures
    empty c.own_input_len-count.result count_is)

pub returns-clause-links : goal.returns-clause-links
returns-clause-links c =
    let v = c.args.self.now in
    let r = c.self.inside in
    let e = c.args.from in
    let x = c.index_mut-own.result.now in
    let to_is = c.upper-2.ensures ∙ ap upper_of (peer_number e c.peer.result c.peer.ensures) in
    let empty = ap (λ (l : Lane). length l.buffers.output) (sym (lane_seen v r c.self.view_is e c.requires.opened)) ∙ c.requires.empty in
    let count_is = c.own_input_len-count.ensures
    ∙ ap (λ (l : Lane). length l.buffers.input) (lane_seen v r c.self.view_is e c.requires.opened) in
    move_links c.args.self.now c.self.inside c.self.view_is c.self.invariant c.args.from c.requires.opened c.number.result
    c.number.ensures x c.index_mut-own.ensures.value c.upper.result c.upper-2.result c.upper.ensures to_is c.move_at.new.self c.move_at.ensures
    empty c.own_input_len-count.result count_is

pub returns-clause-rooms : goal.returns-clause-rooms
returns-clause-rooms c =
    let v = c.args.self.now in
    let r = c.self.inside in
    let e = c.args.from in
    let x = c.index_mut-own.result.now in
    let to_is = c.upper-2.ensures ∙ ap upper_of (peer_number e c.peer.result c.peer.ensures) in
    let empty = ap (λ (l : Lane). length l.buffers.output) (sym (lane_seen v r c.self.view_is e c.requires.opened)) ∙ c.requires.empty in
    let count_is = c.own_input_len-count.ensures
    ∙ ap (λ (l : Lane). length l.buffers.input) (lane_seen v r c.self.view_is e c.requires.opened) in
    let w = c.move_at.new.self in
    record {
      raw_output = get-tabulate (λ m. (bevs_at w.slots (twin m)).lower.bev.output.spare) (2 * r.opened) (number e) 0
          (number-lt e r.opened (here v r c.self.view_is e c.requires.opened))
          ∙ ap (λ (z : Slot). z.bev.output.spare)
          (move_lower c.args.self.now c.self.inside c.self.view_is c.self.invariant c.args.from c.requires.opened c.number.result
          c.number.ensures x c.index_mut-own.ensures.value c.upper.result c.upper-2.result c.upper.ensures to_is c.move_at.new.self c.move_at.ensures
          empty c.own_input_len-count.result count_is)
          ∙ sym (raw_output_room_seen v r c.self.view_is e c.requires.opened);
      beside = subst (λ (z : SidesValue). z.rooms.beside ≤ vec_capacity r.beside) c.self.view_is (omega arith);
    }
