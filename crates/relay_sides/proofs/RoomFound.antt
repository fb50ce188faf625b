-- The room of a direction, as the code reaches it.
use Rattle.std.proofs.Common.{◌≡◌, ℕ, ◌*◌, ◌<◌, length, sym, ◌∙◌, ap, subst, vec_capacity}
use Rattle.ev_types.specs.declared.side.SideId.{SideId}
use Rattle.ev_types.specs.Sides.{number}
use Rattle.relay_state.specs.State.{Lane}
use Rattle.bev_filter.specs.StepRoom.{HasStepRoom}
use Rattle.relay_sides.specs.Bevs.{bevs_at, twin}
use Rattle.relay_sides.specs.Rooms.{input_room, raw_output_room, HasInputRoom, HasOutputRoom}
use Rattle.relay_sides.specs.SidesValue.{SidesValue}
use Rattle.relay_sides.specs.SideView.{state_at}
use Rattle.relay_sides.specs.SidesView.{sides_of}
use Rattle.relay_sides.specs.declared.sides.Sides.TheInside.{Inside}
use Rattle.relay_sides.proofs.TableLemmas.{get-tabulate}
use Rattle.relay_sides.proofs.BevsLemmas.{number-lt}
use Rattle.relay_sides.proofs.SidesLemmas.{here, lane_seen}

module _ (v : SidesValue) (r : Inside) (is : sides_of r ≡ v) (e : SideId) (opened : e.link < v.links.opened) where
  abbrev n : ℕ
  n = number e

  pub input_room_seen : input_room v.rooms e ≡ (bevs_at r.world.slots (number e)).upper.bev.input.spare
  input_room_seen =
      ap (λ (z : SidesValue). input_room z.rooms e) (sym is)
      ∙ get-tabulate (λ m. (bevs_at r.world.slots m).upper.bev.input.spare) (2 * r.opened) n 0 (number-lt e r.opened (here v r is e opened))

  pub raw_output_room_seen : raw_output_room v.rooms e ≡ (bevs_at r.world.slots (twin (number e))).lower.bev.output.spare
  raw_output_room_seen =
      ap (λ (z : SidesValue). raw_output_room z.rooms e) (sym is)
      ∙ get-tabulate (λ m. (bevs_at r.world.slots (twin m)).lower.bev.output.spare) (2 * r.opened) n 0
      (number-lt e r.opened (here v r is e opened))

  beside_seen : v.rooms.beside ≡ vec_capacity r.beside
  beside_seen = ap (λ (z : SidesValue). z.rooms.beside) (sym is)

  pub input_room_found : (mark : ℕ) → HasInputRoom mark v.links v.rooms e →
      (let b = bevs_at r.world.slots (number e) in
      HasStepRoom b.upper.read_filter.kind (length b.lower.bev.input.bytes) (length b.upper.bev.input.bytes) mark b.upper.bev.input.spare
      (vec_capacity r.beside) (state_at r.sides.items (number e)).read_made)
  input_room_found mark h =
      subst (λ m. (let b = bevs_at r.world.slots n in
      HasStepRoom b.upper.read_filter.kind (length b.lower.bev.input.bytes) (length b.upper.bev.input.bytes) mark b.upper.bev.input.spare
      m (state_at r.sides.items n).read_made)) beside_seen
      (subst (λ m. (let b = bevs_at r.world.slots n in
      HasStepRoom b.upper.read_filter.kind (length b.lower.bev.input.bytes) (length b.upper.bev.input.bytes) mark m
      v.rooms.beside (state_at r.sides.items n).read_made)) input_room_seen
      (subst (λ (l : Lane). HasStepRoom l.reader.kind (length l.buffers.raw_input) (length l.buffers.input) mark (input_room v.rooms e)
      v.rooms.beside l.read_made) (lane_seen v r is e opened) h))

  pub output_room_found : (hold count : ℕ) → HasOutputRoom hold count v.links v.rooms e →
      (let b = bevs_at r.world.slots (twin (number e)) in
      HasStepRoom b.upper.write_filter.kind count (length b.lower.bev.output.bytes) hold b.lower.bev.output.spare
      (vec_capacity r.beside) (state_at r.sides.items (number e)).write_made)
  output_room_found hold count h =
      subst (λ m. (let b = bevs_at r.world.slots (twin n) in
      HasStepRoom b.upper.write_filter.kind count (length b.lower.bev.output.bytes) hold b.lower.bev.output.spare
      m (state_at r.sides.items n).write_made)) beside_seen
      (subst (λ m. (let b = bevs_at r.world.slots (twin n) in
      HasStepRoom b.upper.write_filter.kind count (length b.lower.bev.output.bytes) hold m
      v.rooms.beside (state_at r.sides.items n).write_made)) raw_output_room_seen
      (subst (λ (l : Lane). HasStepRoom l.writer.kind count (length l.buffers.raw_output) hold (raw_output_room v.rooms e)
      v.rooms.beside l.write_made) (lane_seen v r is e opened) h))
