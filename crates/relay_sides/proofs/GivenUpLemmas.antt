-- Both bufferevents of both sides of a link give their room up.
use Rattle.std.proofs.Common.{◌≡◌, ◌≢◌, ℕ, ◌<◌, List, length, ap, sym, subst, ◌∙◌, arith}
use Rattle.ev_types.specs.declared.side.SideId.{SideId}
use Rattle.ev_types.specs.Sides.{number}
use Rattle.relay_state.specs.State.{Lane}
use Rattle.bev_core.specs.Steps.{given_up}
use Rattle.bev_world.specs.ByNumber.{roomless}
use Rattle.bev_world.specs.WorldValue.{WorldValue, slot_at}
use Rattle.bev_world.specs.declared.slot.Slot.{Slot}
use Rattle.relay_sides.specs.Bevs.{Bevs, bevs_at, lower_of, upper_of, twin}
use Rattle.relay_sides.specs.Rooms.{HasNoIdleRoom}
use Rattle.relay_sides.specs.SidesView.{links_of, rooms_of}
use Rattle.relay_sides.specs.declared.side.SideState.{SideState}
use Rattle.relay_sides.proofs.BevsLemmas.{set_lower-same, set_lower-other, set_upper-same, set_upper-other}
use Rattle.relay_sides.proofs.RoomLemmas.{Quiet, then_quiet, lower_given_up, upper_given_up, without-spare}
use Rattle.relay_sides.proofs.RoomLemmas.{lane_is, raw_input_room_is, input_room_is, output_room_is, raw_output_room_is}

-- it gave up its room
abbrev pub roomless_slot : Slot → Slot
roomless_slot s = record s { bev = given_up s.bev; room = 0 }

-- no buffer of the two bufferevents of a side has room where it has no byte
pub record HasGivenUp (S : List Slot) (n : ℕ) : Type 0 where
  pub raw_input : length (bevs_at S n).lower.bev.input.bytes ≡ 0 → (bevs_at S n).lower.bev.input.spare ≡ 0
  pub input : length (bevs_at S n).upper.bev.input.bytes ≡ 0 → (bevs_at S n).upper.bev.input.spare ≡ 0
  pub output : length (bevs_at S n).upper.bev.output.bytes ≡ 0 → (bevs_at S n).upper.bev.output.spare ≡ 0
  pub raw_output : length (bevs_at S n).lower.bev.output.bytes ≡ 0 → (bevs_at S n).lower.bev.output.spare ≡ 0

no-input : (z s : Slot) → z ≡ roomless_slot s → length z.bev.input.bytes ≡ 0 → z.bev.input.spare ≡ 0
no-input z s is = subst (λ (y : Slot). length y.bev.input.bytes ≡ 0 → y.bev.input.spare ≡ 0) (sym is) (without-spare s.bev.input)

no-output : (z s : Slot) → z ≡ roomless_slot s → length z.bev.output.bytes ≡ 0 → z.bev.output.spare ≡ 0
no-output z s is = subst (λ (y : Slot). length y.bev.output.bytes ≡ 0 → y.bev.output.spare ≡ 0) (sym is) (without-spare s.bev.output)

both-gave : (S : List Slot) (n : ℕ) (low up : Slot) → (bevs_at S n).lower ≡ roomless_slot low →
    (bevs_at S n).upper ≡ roomless_slot up → HasGivenUp S n
both-gave S n low up a b = record {
  raw_input = no-input (bevs_at S n).lower low a;
  input = no-input (bevs_at S n).upper up b;
  output = no-output (bevs_at S n).upper up b;
  raw_output = no-output (bevs_at S n).lower low a;
}

module _ (w0 w1 w2 w3 w4 : WorldValue) (n t l u u2 l2 : ℕ) (la : l ≡ lower_of n) (ua : u ≡ upper_of n) (ub : u2 ≡ upper_of t)
    (lb : l2 ≡ lower_of t) (nt : upper_of n < length w0.slots) (tt : upper_of t < length w0.slots)
    (one : w1 ≡ roomless w0 l) (two : w2 ≡ roomless w1 u) (three : w3 ≡ roomless w2 u2) (four : w4 ≡ roomless w3 l2) where
  q1 : Quiet w0.slots w1.slots
  q1 = lower_given_up w0 w1 n l la (omega (arith, nt)) one

  q2 : Quiet w1.slots w2.slots
  q2 = upper_given_up w1 w2 n u ua (omega (arith, nt, q1.count)) two

  q3 : Quiet w2.slots w3.slots
  q3 = upper_given_up w2 w3 t u2 ub (omega (arith, tt, q1.count, q2.count)) three

  in3 : lower_of t < length w3.slots
  in3 = omega (arith, tt, q1.count, q2.count, q3.count)

  q4 : Quiet w3.slots w4.slots
  q4 = lower_given_up w3 w4 t l2 lb in3 four

  pub gave_up : Quiet w0.slots w4.slots
  gave_up = then_quiet w0.slots w1.slots w4.slots q1
      (then_quiet w1.slots w2.slots w4.slots q2 (then_quiet w2.slots w3.slots w4.slots q3 q4))

  -- what each step leaves of a side
  step1 : (bevs_at w1.slots n).lower ≡ roomless_slot (slot_at w0 (lower_of n))
  step1 =
      ap (λ (z : WorldValue). (bevs_at z.slots n).lower) (one ∙ ap (roomless w0) la)
      ∙ ap (λ (z : Bevs). z.lower) (set_lower-same w0.slots n (roomless_slot (slot_at w0 (lower_of n))) (omega (arith, nt)))

  step2 : bevs_at w2.slots n ≡ record (bevs_at w1.slots n) { upper = roomless_slot (slot_at w1 (upper_of n)) }
  step2 =
      ap (λ (z : WorldValue). bevs_at z.slots n) (two ∙ ap (roomless w1) ua)
      ∙ set_upper-same w1.slots n (roomless_slot (slot_at w1 (upper_of n))) (omega (arith, nt, q1.count))

  step3 : n ≢ t → bevs_at w3.slots n ≡ bevs_at w2.slots n
  step3 apart =
      ap (λ (z : WorldValue). bevs_at z.slots n) (three ∙ ap (roomless w2) ub)
      ∙ set_upper-other w2.slots t (roomless_slot (slot_at w2 (upper_of t))) n apart

  step4 : n ≢ t → bevs_at w4.slots n ≡ bevs_at w3.slots n
  step4 apart =
      ap (λ (z : WorldValue). bevs_at z.slots n) (four ∙ ap (roomless w3) lb)
      ∙ set_lower-other w3.slots t (roomless_slot (slot_at w3 (lower_of t))) n apart

  far3 : (bevs_at w3.slots t).upper ≡ roomless_slot (slot_at w2 (upper_of t))
  far3 =
      ap (λ (z : WorldValue). (bevs_at z.slots t).upper) (three ∙ ap (roomless w2) ub)
      ∙ ap (λ (z : Bevs). z.upper)
      (set_upper-same w2.slots t (roomless_slot (slot_at w2 (upper_of t))) (omega (arith, tt, q1.count, q2.count)))

  far4 : bevs_at w4.slots t ≡ record (bevs_at w3.slots t) { lower = roomless_slot (slot_at w3 (lower_of t)) }
  far4 =
      ap (λ (z : WorldValue). bevs_at z.slots t) (four ∙ ap (roomless w3) lb)
      ∙ set_lower-same w3.slots t (roomless_slot (slot_at w3 (lower_of t))) in3

  pub near_gave_up : n ≢ t → HasGivenUp w4.slots n
  near_gave_up apart =
      let kept = step4 apart ∙ step3 apart ∙ step2 in
      both-gave w4.slots n (slot_at w0 (lower_of n)) (slot_at w1 (upper_of n)) (ap (λ (z : Bevs). z.lower) kept ∙ step1)
      (ap (λ (z : Bevs). z.upper) kept)

  pub far_gave_up : HasGivenUp w4.slots t
  far_gave_up =
      both-gave w4.slots t (slot_at w3 (lower_of t)) (slot_at w2 (upper_of t)) (ap (λ (z : Bevs). z.lower) far4)
      (ap (λ (z : Bevs). z.upper) far4 ∙ far3)

-- as contracts see it
pub no_idle_room : (opened : ℕ) (S : List Slot) (K : List SideState) (e : SideId) → e.link < opened → (beside : ℕ) →
    HasGivenUp S (number e) → HasGivenUp S (twin (number e)) → HasNoIdleRoom (links_of opened S K) (rooms_of opened S beside) e
no_idle_room opened S K e h beside near far =
    let lane = lane_is opened S K e h in
    record {
      raw_input = λ none. raw_input_room_is opened S K e h beside
          ∙ near.raw_input (ap (λ (l : Lane). length l.buffers.raw_input) (sym lane) ∙ none);
      input = λ none. input_room_is opened S K e h beside
          ∙ near.input (ap (λ (l : Lane). length l.buffers.input) (sym lane) ∙ none);
      output = λ none. output_room_is opened S K e h beside
          ∙ far.output (ap (λ (l : Lane). length l.buffers.output) (sym lane) ∙ none);
      raw_output = λ none. raw_output_room_is opened S K e h beside
          ∙ far.raw_output (ap (λ (l : Lane). length l.buffers.raw_output) (sym lane) ∙ none);
    }
