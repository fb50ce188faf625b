use Rattle.std.proofs.Common.{◌≡◌, ℕ, true, false, ◌+◌, ◌*◌, ◌^◌, ◌<◌, length, refl, sym, ◌∙◌, ap, subst, arith}
use Rattle.std.specs.Prelude.{vec_capacity}
use Rattle.ev_types.specs.Sides.{number}
use Rattle.relay_model.specs.Plain.{PlainSide, no_side}
use Rattle.relay_model.specs.Rooms.{most_at_once, mark_or}
use Rattle.relay_state.specs.State.{Lane}
use Rattle.bev_world.specs.WorldValue.{WorldValue, slot_at, bev_at}
use Rattle.relay_sides.specs.Bevs.{bevs_at}
use Rattle.relay_sides.specs.SidesValue.{SidesValue}
use Rattle.relay_sides.specs.SideView.{state_at, plain_at}
use Rattle.relay_sides.specs.SidesView.{CanRead}
use Rattle.relay_sides.proofs.TableLemmas.{get-tabulate}
use Rattle.relay_sides.proofs.BevsLemmas.{number-lt}
use Rattle.relay_sides.proofs.SidesLemmas.{here, state_found}
use Rattle.relay_sides.proofs.RoomLemmas.{Seen, quiet_links, quiet_sound, sound_unread, quiet_plain, upper_spared, lane_is}
use Rattle.relay_sides.proofs.RoomLemmas.{read_step_room, spare_here}
use Rattle.relay_sides.proofs.ServeLemmas.{can_read, step_there}
use Rattle.relay_sides.proofs.sides.Sides.reserve_read.Goals as goal

pub overflow_add-count : goal.overflow_add-count
overflow_add-count c =
    let r = c.self.inside in
    let e = c.args.side in
    let h = here c.args.self.now r c.self.view_is e c.requires in
    let lt = number-lt e r.opened h in
    let s = state_found r.sides.items (number e) c.number.result c.index-own.result.now c.number.ensures c.index-own.ensures
    (omega (arith, lt, c.self.invariant.sides)) in
    let read = ap (λ z. z.read) s in
    let count = c.raw_input_len.ensures
    ∙ ap (λ (l : Lane). length l.buffers.raw_input) (lane_is r.opened r.world.slots r.sides.items e h) in
    let most = (c.self.invariant.counted (number e) lt).used in
    let left = c.if-room-read.false in
    let fits = c.raw_input_len.type_inv in
    omega (arith, read, count, most, left, fits)

pub invariant_of-self-in_err-reserve_step_at : goal.invariant_of-self-in_err-reserve_step_at
invariant_of-self-in_err-reserve_step_at c =
    let r = c.self.inside in
    let e = c.args.side in
    let w = c.reserve_step_at.new.self in
    let lt = number-lt e r.opened (here c.args.self.now r c.self.view_is e c.requires) in
    let q = upper_spared r.world w (number e) c.upper.result (bev_at w c.upper.result).input.spare c.upper.ensures
    (omega (arith, lt, c.self.invariant.slots)) c.reserve_step_at.ensures.stays in
    let s = quiet_sound r.world.slots w.slots r.sides.items q r c.self.invariant refl refl in
    sound_unread _ s (ap (λ (z : WorldValue). z.chunked) c.reserve_step_at.ensures.stays ∙ c.self.invariant.one_piece) refl

pub returns-in_err-reserve_step_at-clause-links : goal.returns-in_err-reserve_step_at-clause-links
returns-in_err-reserve_step_at-clause-links c =
    let r = c.self.inside in
    let e = c.args.side in
    let w = c.reserve_step_at.new.self in
    let lt = number-lt e r.opened (here c.args.self.now r c.self.view_is e c.requires) in
    let q = upper_spared r.world w (number e) c.upper.result (bev_at w c.upper.result).input.spare c.upper.ensures
    (omega (arith, lt, c.self.invariant.slots)) c.reserve_step_at.ensures.stays in
    quiet_links r.world.slots w.slots r.sides.items q r.opened ∙ ap (λ (z : SidesValue). z.links) c.self.view_is

pub invariant_of-self-in_err-reserve : goal.invariant_of-self-in_err-reserve
invariant_of-self-in_err-reserve c =
    let r = c.self.inside in
    let e = c.args.side in
    let w = c.reserve_step_at.new.self in
    let lt = number-lt e r.opened (here c.args.self.now r c.self.view_is e c.requires) in
    let q = upper_spared r.world w (number e) c.upper.result (bev_at w c.upper.result).input.spare c.upper.ensures
    (omega (arith, lt, c.self.invariant.slots)) c.reserve_step_at.ensures.stays in
    let s = quiet_sound r.world.slots w.slots r.sides.items q r c.self.invariant refl refl in
    sound_unread _ s (ap (λ (z : WorldValue). z.chunked) c.reserve_step_at.ensures.stays ∙ c.self.invariant.one_piece) refl

pub returns-in_err-reserve-clause-links : goal.returns-in_err-reserve-clause-links
returns-in_err-reserve-clause-links c =
    let r = c.self.inside in
    let e = c.args.side in
    let w = c.reserve_step_at.new.self in
    let lt = number-lt e r.opened (here c.args.self.now r c.self.view_is e c.requires) in
    let q = upper_spared r.world w (number e) c.upper.result (bev_at w c.upper.result).input.spare c.upper.ensures
    (omega (arith, lt, c.self.invariant.slots)) c.reserve_step_at.ensures.stays in
    quiet_links r.world.slots w.slots r.sides.items q r.opened ∙ ap (λ (z : SidesValue). z.links) c.self.view_is

pub invariant_of-self-3 : goal.invariant_of-self-3
invariant_of-self-3 c =
    let r = c.self.inside in
    let e = c.args.side in
    let w = c.reserve_step_at.new.self in
    let h0 = here c.args.self.now r c.self.view_is e c.requires in
    let lt = number-lt e r.opened h0 in
    let q = upper_spared r.world w (number e) c.upper.result (bev_at w c.upper.result).input.spare c.upper.ensures
    (omega (arith, lt, c.self.invariant.slots)) c.reserve_step_at.ensures.stays in
    let s = quiet_sound r.world.slots w.slots r.sides.items q r c.self.invariant refl refl in
    let x = state_found r.sides.items (number e) c.number.result c.index-own.result.now c.number.ensures c.index-own.ensures
    (omega (arith, lt, c.self.invariant.sides)) in
    let read = ap (λ z. z.read) x in
    let left = c.if-room-read.false in
    let fits : c.index-own.result.now.read < 2 ^ 64 = omega arith in
    let fits2 : c.args.room + c.index-own.result.now.read < 2 ^ 64 = omega (arith, left, fits) in
    let raw = c.raw_input_len.ensures ∙ ap (λ (l : Lane). length l.buffers.raw_input) (lane_is r.opened r.world.slots r.sides.items e h0)
    ∙ ap (λ (z : Seen). length z.left.raw_input) (sym (q.seen (number e))) in
    let own = get-tabulate (plain_at r.world.slots r.sides.items) (2 * r.opened) (number e) no_side lt in
    let mark = c.read_mark-mark.ensures ∙ ap (λ (z : PlainSide). mark_or z.marks.read_high most_at_once)
    (own ∙ sym (quiet_plain r.world.slots w.slots r.sides.items q (number e))) in
    let step = read_step_room (slot_at w c.upper.result) (bevs_at w.slots (number e)) (c.raw_input_len.result + c.args.room) c.args.room
    c.read_mark-mark.result (vec_capacity c.reserve_step_at.new.beside) c.index-own.result.now.read_made
    (state_at r.sides.items (number e)).read_made (ap (slot_at w) c.upper.ensures) (ap (λ z. z + c.args.room) raw) mark
    (ap (λ z. z.read_made) x) c.in_ok-reserve_step_at.ensures.room in
    let here_is = c.number-self-inside.ensures in
    record {
      slots = s.slots;
      sides = s.sides;
      filters = s.filters;
      counted = s.counted;
      one_piece = ap (λ (z : WorldValue). z.chunked) c.reserve_step_at.ensures.stays ∙ c.self.invariant.one_piece;
      read_room = λ some. (
        omega (arith, lt, here_is),
        subst (λ (z : ℕ). CanRead (bevs_at w.slots z) (state_at r.sides.items z) (vec_capacity c.reserve_step_at.new.beside)
            c.reserve.new.self c.args.room) (sym here_is)
            (record { counted = omega (arith, fits2, read); kept = omega (arith, raw, c.in_ok-reserve.ensures.room); step = step }),
      );
    }

pub returns-clause-links : goal.returns-clause-links
returns-clause-links c =
    let r = c.self.inside in
    let e = c.args.side in
    let w = c.reserve_step_at.new.self in
    let lt = number-lt e r.opened (here c.args.self.now r c.self.view_is e c.requires) in
    let q = upper_spared r.world w (number e) c.upper.result (bev_at w c.upper.result).input.spare c.upper.ensures
    (omega (arith, lt, c.self.invariant.slots)) c.reserve_step_at.ensures.stays in
    quiet_links r.world.slots w.slots r.sides.items q r.opened ∙ ap (λ (z : SidesValue). z.links) c.self.view_is

pub returns-clause-room : goal.returns-clause-room
returns-clause-room c =
    let r = c.self.inside in
    let e = c.args.side in
    let lt = number-lt e r.opened (here c.args.self.now r c.self.view_is e c.requires) in
    spare_here r.opened (number e) c.number-self-inside.result c.args.room lt c.number-self-inside.ensures

-- where the room is there, it can be counted
pub returns-then-room-read-clause-there : goal.returns-then-room-read-clause-there
returns-then-room-read-clause-there c = λ some le.
    let r = c.self.inside in
    let e = c.args.side in
    let lt = number-lt e r.opened (here c.args.self.now r c.self.view_is e c.requires) in
    let x = state_found r.sides.items (number e) c.number.result c.index-own.result.now c.number.ensures c.index-own.ensures
    (omega (arith, lt, c.self.invariant.sides)) in
    let can = can_read c.args.self.now r c.self.view_is e c.requires c.self.invariant c.args.room some le in
    let read = ap (λ z. z.read) x in
    let more = c.if-room-read.true in
    absurd (omega (arith, can.counted, read, more))

-- and there is room for the step
pub returns-in_err-reserve_step_at-clause-there : goal.returns-in_err-reserve_step_at-clause-there
returns-in_err-reserve_step_at-clause-there c = λ some le.
    let r = c.self.inside in
    let e = c.args.side in
    let lt = number-lt e r.opened (here c.args.self.now r c.self.view_is e c.requires) in
    let x = state_found r.sides.items (number e) c.number.result c.index-own.result.now c.number.ensures c.index-own.ensures
    (omega (arith, lt, c.self.invariant.sides)) in
    let raw = c.raw_input_len.ensures ∙ ap (λ (l : Lane). length l.buffers.raw_input)
    (lane_is r.opened r.world.slots r.sides.items e (here c.args.self.now r c.self.view_is e c.requires)) in
    let mark = c.read_mark-mark.ensures ∙ ap (λ (z : PlainSide). mark_or z.marks.read_high most_at_once)
    (get-tabulate (plain_at r.world.slots r.sides.items) (2 * r.opened) (number e) no_side lt) in
    let step = step_there c.args.self.now r c.self.view_is e c.requires c.self.invariant c.args.room some le c.upper.result
    (c.raw_input_len.result + c.args.room) c.read_mark-mark.result c.index-own.result.now.read_made c.upper.ensures
    (ap (λ z. z + c.args.room) raw) mark (ap (λ z. z.read_made) x) in
    absurd (let wrong : false ≡ true = c.in_err-reserve_step_at.ensures.sure step in cc)

-- and for the bytes
pub returns-in_err-reserve-clause-there : goal.returns-in_err-reserve-clause-there
returns-in_err-reserve-clause-there c = λ some le.
    let r = c.self.inside in
    let e = c.args.side in
    let can = can_read c.args.self.now r c.self.view_is e c.requires c.self.invariant c.args.room some le in
    let raw = c.raw_input_len.ensures ∙ ap (λ (l : Lane). length l.buffers.raw_input)
    (lane_is r.opened r.world.slots r.sides.items e (here c.args.self.now r c.self.view_is e c.requires)) in
    absurd (let wrong : false ≡ true = c.in_err-reserve.ensures.there (omega (arith, raw, can.kept)) in cc)
