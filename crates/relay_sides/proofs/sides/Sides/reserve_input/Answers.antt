use Rattle.std.proofs.Common.{length, refl, sym, ◌∙◌, ap, arith}
use Rattle.std.proofs.lemmas.Result.{IfOk-weaker, on_ok_weaker}
use Rattle.std.specs.Prelude.{vec_capacity}
use Rattle.ev_types.specs.Sides.{number}
use Rattle.stream_filters.specs.StepAnswers.{most_by_step}
use Rattle.bev_world.specs.WorldValue.{WorldValue, slot_at, bev_at}
use Rattle.relay_sides.specs.SideView.{state_at}
use Rattle.relay_sides.proofs.BevsLemmas.{number-lt}
use Rattle.relay_sides.proofs.SidesLemmas.{here, state_found}
use Rattle.relay_sides.proofs.RoomLemmas.{quiet_links, quiet_sound, sound_unread, upper_spared, lane_is, has_input_room, input_step_room}
use Rattle.relay_sides.proofs.sides.Sides.reserve_input.Goals as goal

pub invariant_of-self-2 : goal.invariant_of-self-2
invariant_of-self-2 c =
    let r = c.self.inside in
    let e = c.args.from in
    let lt = number-lt e r.opened (here c.args.self.now r c.self.view_is e c.requires) in
    let q = upper_spared r.world c.reserve_step_at.new.self (number e) c.upper.result
    (bev_at c.reserve_step_at.new.self c.upper.result).input.spare c.upper.ensures
    (omega (arith, lt, c.self.invariant.slots)) c.reserve_step_at.ensures.stays in
    let s = quiet_sound r.world.slots c.reserve_step_at.new.self.slots r.sides.items q r c.self.invariant refl refl in
    sound_unread _ s (ap (λ (z : WorldValue). z.chunked) c.reserve_step_at.ensures.stays ∙ c.self.invariant.one_piece) refl

pub returns-clause-links : goal.returns-clause-links
returns-clause-links c =
    let r = c.self.inside in
    let e = c.args.from in
    let lt = number-lt e r.opened (here c.args.self.now r c.self.view_is e c.requires) in
    let q = upper_spared r.world c.reserve_step_at.new.self (number e) c.upper.result
    (bev_at c.reserve_step_at.new.self c.upper.result).input.spare c.upper.ensures
    (omega (arith, lt, c.self.invariant.slots)) c.reserve_step_at.ensures.stays in
    quiet_links r.world.slots c.reserve_step_at.new.self.slots r.sides.items q r.opened ∙ ap (λ z. z.links) c.self.view_is

pub returns-clause-room : goal.returns-clause-room
returns-clause-room c =
    let r = c.self.inside in
    let e = c.args.from in
    let w = c.reserve_step_at.new.self in
    let h = here c.args.self.now r c.self.view_is e c.requires in
    let lt = number-lt e r.opened h in
    let q = upper_spared r.world w (number e) c.upper.result (bev_at w c.upper.result).input.spare c.upper.ensures
    (omega (arith, lt, c.self.invariant.slots)) c.reserve_step_at.ensures.stays in
    let count = c.raw_input_len-count.ensures ∙ ap (λ l. length l.buffers.raw_input) (lane_is r.opened r.world.slots r.sides.items e h)
    ∙ ap (λ z. length z.left.raw_input) (sym (q.seen (number e))) in
    let s = state_found r.sides.items (number e) c.number.result c.index.result.now c.number.ensures c.index.ensures
    (omega (arith, lt, c.self.invariant.sides)) in
    on_ok_weaker c.reserve_step_at.result
    (λ room. has_input_room r.opened w.slots r.sides.items e h c.args.mark (vec_capacity c.reserve_step_at.new.beside)
    (input_step_room w (number e) c.upper.result c.raw_input_len-count.result c.index.result.now.read_made
    (state_at r.sides.items (number e)).read_made c.args.mark (vec_capacity c.reserve_step_at.new.beside)
    c.upper.ensures count (ap (λ z. z.read_made) s) room))
    c.reserve_step_at.ensures.room

pub returns-clause-most : goal.returns-clause-most
returns-clause-most c =
    let r = c.self.inside in
    let e = c.args.from in
    let w = c.reserve_step_at.new.self in
    let h = here c.args.self.now r c.self.view_is e c.requires in
    let lt = number-lt e r.opened h in
    let q = upper_spared r.world w (number e) c.upper.result (bev_at w c.upper.result).input.spare c.upper.ensures
    (omega (arith, lt, c.self.invariant.slots)) c.reserve_step_at.ensures.stays in
    let count = c.raw_input_len-count.ensures ∙ ap (λ l. length l.buffers.raw_input) (lane_is r.opened r.world.slots r.sides.items e h)
    ∙ ap (λ z. length z.left.raw_input) (sym (q.seen (number e))) in
    let a = c.upper.ensures in
    let l = lane_is r.opened w.slots r.sides.items e h in
    IfOk-weaker c.reserve_step_at.result _ _
    (λ most m. m
    ∙ (λ i. most_by_step (slot_at w (a i)).read_filter.kind (count i) (length (bev_at w (a i)).input.bytes) c.args.mark)
    ∙ ap (λ z. most_by_step z.reader.kind (length z.buffers.raw_input) (length z.buffers.input) c.args.mark) (sym l))
    c.reserve_step_at.ensures.most
