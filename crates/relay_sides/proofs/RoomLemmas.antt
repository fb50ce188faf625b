-- Changes of which nothing is seen: room is made in the bufferevents of a side, or is given up.
use Rattle.std.proofs.Common.{◌≡◌, ℕ, ◌+◌, ◌*◌, ◌<◌, ◌≤◌, Bool, true, false, ◌==◌, if◌then◌else◌, List, length, slice_index_or}
use Rattle.std.proofs.Common.{slice_set, Some, refl, sym, ◌∙◌, ap, subst, arith, eqb-true}
use Rattle.std.proofs.lemmas.Bool.{eqb-false}
use Rattle.std.proofs.lemmas.List.{length-set, nil_from_length, get_or-set_other}
use Rattle.token_bucket.specs.declared.limit.Dir.TheVariants.{Read, Write}
use Rattle.ev_types.specs.declared.side.SideId.{SideId}
use Rattle.ev_types.specs.Sides.{number}
use Rattle.relay_model.specs.Plain.{PlainSide}
use Rattle.relay_model.specs.Rooms.{most_at_once, mark_or}
use Rattle.relay_state.specs.State.{Lane, no_lane}
use Rattle.bev_core.specs.BevValue.{BevValue, Held, nothing}
use Rattle.bev_core.specs.Steps.{without_room, given_up}
use Rattle.bev_filter.specs.StepRoom.{HasStepRoom}
use Rattle.bev_world.specs.ByNumber.{with_spare_in, roomless}
use Rattle.bev_world.specs.Filters.{under_of}
use Rattle.bev_world.specs.WorldValue.{WorldValue, no_slot, slot_at, bev_at, with_bev}
use Rattle.bev_world.specs.declared.slot.Slot.{Slot}
use Rattle.bev_world.specs.declared.slot.Kind.{Kind}
use Rattle.bev_world.specs.declared.slot.Kind.TheVariants.{Filter}
use Rattle.relay_sides.specs.Bevs.{Bevs, bevs_at, lower_of, upper_of, twin}
use Rattle.relay_sides.specs.Table.{tabulate}
use Rattle.relay_sides.specs.Links as links
use Rattle.relay_sides.specs.Rooms.{output_room, raw_input_room, input_room, raw_output_room, HasInputRoom, HasOutputRoom}
use Rattle.relay_sides.specs.SideView.{state_at, plain_at, flow_at, lane_at, plain_side}
use Rattle.relay_sides.specs.SidesView.{links_of, rooms_of, AreSides, IsCounted}
use Rattle.relay_sides.specs.declared.sides.Sides.TheInside.{Inside}
use Rattle.relay_sides.specs.declared.side.SideState.{SideState}
use Rattle.relay_sides.proofs.TableLemmas.{get-tabulate}
use Rattle.relay_sides.proofs.BevsLemmas.{number-lt, set_lower-other, set_lower-same, set_upper-other, set_upper-same}
use Rattle.relay_sides.proofs.ChangeLemmas.{Left, Right, left_of, right_of, everywhere, Alike, Lasting, links-alike, counted-alike}
use Rattle.relay_sides.proofs.ChangeLemmas.{filters-last}

-- what is seen of a side's two bufferevents
pub record Seen : Type 0 where
  pub left : Left
  pub right : Right
  pub kind : Kind
  pub plain : SideState → PlainSide

abbrev pub seen_of : Bevs → Seen
seen_of b = record { left = left_of b; right = right_of b; kind = b.upper.kind; plain = λ s. plain_side b.lower.bev s }

-- nothing of a change of the slots is seen
pub record Quiet (S S' : List Slot) : Type 0 where
  pub count : length S' ≡ length S
  pub seen : (m : ℕ) → seen_of (bevs_at S' m) ≡ seen_of (bevs_at S m)

pub then_quiet : (A B C : List Slot) → Quiet A B → Quiet B C → Quiet A C
then_quiet A B C p q = record { count = q.count ∙ p.count; seen = λ m. q.seen m ∙ p.seen m }

module _ (S : List Slot) (n : ℕ) (s : Slot) where
  pub lower_quiet : lower_of n < length S → seen_of (let b = bevs_at S n in record b { lower = s }) ≡ seen_of (bevs_at S n) →
      Quiet S (slice_set S (lower_of n) s)
  lower_quiet lt h = record {
    count = length-set S (lower_of n) s;
    seen = everywhere (λ m. seen_of (bevs_at S m)) (λ m. seen_of (bevs_at (slice_set S (lower_of n) s) m)) n
        (λ m d. ap seen_of (set_lower-other S n s m d)) (ap seen_of (set_lower-same S n s lt) ∙ h);
  }

  pub upper_quiet : upper_of n < length S → seen_of (let b = bevs_at S n in record b { upper = s }) ≡ seen_of (bevs_at S n) →
      Quiet S (slice_set S (upper_of n) s)
  upper_quiet lt h = record {
    count = length-set S (upper_of n) s;
    seen = everywhere (λ m. seen_of (bevs_at S m)) (λ m. seen_of (bevs_at (slice_set S (upper_of n) s) m)) n
        (λ m d. ap seen_of (set_upper-other S n s m d)) (ap seen_of (set_upper-same S n s lt) ∙ h);
  }

-- what is kept, as far as no read has room
pub record Sound (opened : ℕ) (S : List Slot) (K : List SideState) : Type 0 where
  pub slots : length S ≡ 4 * opened
  pub sides : length K ≡ 2 * opened
  pub filters : (n : ℕ) → n < 2 * opened → (bevs_at S n).upper.kind ≡ Filter (lower_of n)
  pub counted : (n : ℕ) → n < 2 * opened → IsCounted (flow_at S K n) (lane_at S K n)

-- Where no read has room, that is all.
pub sound_unread : (s : Inside) → Sound s.opened s.world.slots s.sides.items → s.world.chunked ≡ false → s.readable ≡ 0 → AreSides s
sound_unread s h one_piece unready = record {
  slots = h.slots;
  sides = h.sides;
  filters = h.filters;
  counted = h.counted;
  one_piece = one_piece;
  read_room = λ some. absurd (omega (arith, some, unready));
}

module _ (S S' : List Slot) (K : List SideState) (q : Quiet S S') where
  pub quiet_alike : Alike S S' K K
  quiet_alike = record {
    left = λ m. ap (λ (z : Seen). z.left) (q.seen m);
    right = λ m. ap (λ (z : Seen). z.right) (q.seen m);
    counted = λ m. refl;
  }

  pub quiet_lasts : Lasting S S' K K
  quiet_lasts = record { slots = q.count; sides = refl; kinds = λ m. ap (λ (z : Seen). z.kind) (q.seen m) }

  pub quiet_plain : (m : ℕ) → plain_at S' K m ≡ plain_at S K m
  quiet_plain m = ap (λ (z : Seen). z.plain (state_at K m)) (q.seen m)

  pub quiet_links : (opened : ℕ) → links_of opened S' K ≡ links_of opened S K
  quiet_links opened = links-alike S S' K K opened quiet_alike quiet_plain

  pub quiet_sound : (r : Inside) → AreSides r → r.world.slots ≡ S → r.sides.items ≡ K → Sound r.opened S' K
  quiet_sound r sound s k = record {
    slots = q.count ∙ ap length (sym s) ∙ sound.slots;
    sides = ap length (sym k) ∙ sound.sides;
    filters = filters-last S S' K K (2 * r.opened) quiet_lasts
        (subst (λ (z : List Slot). (n : ℕ) → n < 2 * r.opened → (bevs_at z n).upper.kind ≡ Filter (lower_of n)) s sound.filters);
    counted = counted-alike S S' K K quiet_alike (2 * r.opened)
        (subst (λ (z : List SideState). (n : ℕ) → n < 2 * r.opened → IsCounted (flow_at S z n) (lane_at S z n)) k
        (subst (λ (z : List Slot). (n : ℕ) → n < 2 * r.opened
        → IsCounted (flow_at z r.sides.items n) (lane_at z r.sides.items n)) s sound.counted));
  }

-- room alone is made

pub upper_spared : (w w2 : WorldValue) (n at x : ℕ) → at ≡ upper_of n → upper_of n < length w.slots →
    w2 ≡ with_bev w at (with_spare_in (bev_at w at) Read x) → Quiet w.slots w2.slots
upper_spared w w2 n at x a lt is =
    let is2 : w2 ≡ with_bev w (upper_of n) (with_spare_in (bev_at w (upper_of n)) Read x) =
    is ∙ ap (λ k. with_bev w k (with_spare_in (bev_at w k) Read x)) a in
    let b = bev_at w (upper_of n) in
    let s = slot_at w (upper_of n) in
    subst (λ (z : WorldValue). Quiet w.slots z.slots) (sym is2)
    (upper_quiet w.slots n (record s { bev = record b { input = record b.input { spare = x } } }) lt refl)

pub lower_spared : (w w2 : WorldValue) (n at x : ℕ) → at ≡ lower_of n → lower_of n < length w.slots →
    w2 ≡ with_bev w at (with_spare_in (bev_at w at) Write x) → Quiet w.slots w2.slots
lower_spared w w2 n at x a lt is =
    let is2 : w2 ≡ with_bev w (lower_of n) (with_spare_in (bev_at w (lower_of n)) Write x) =
    is ∙ ap (λ k. with_bev w k (with_spare_in (bev_at w k) Write x)) a in
    let b = bev_at w (lower_of n) in
    let s = slot_at w (lower_of n) in
    subst (λ (z : WorldValue). Quiet w.slots z.slots) (sym is2)
    (lower_quiet w.slots n (record s { bev = record b { output = record b.output { spare = x } } }) lt refl)

-- the filter stands over the bufferevent of its side's end
pub stands_over : (w : WorldValue) (n at under : ℕ) → at ≡ upper_of n → under ≡ lower_of n →
    (bevs_at w.slots n).upper.kind ≡ Filter (lower_of n) → under_of (slot_at w at).kind ≡ Some under
stands_over w n at under a u k =
    ap (λ j. under_of (slot_at w j).kind) a ∙ ap under_of k ∙ ap (λ j. Some j) (sym u)

-- room as contracts see it

module _ (opened : ℕ) (S : List Slot) (K : List SideState) (e : SideId) (h : e.link < opened) where
  pub lane_is : links.lane_at (links_of opened S K) e ≡ lane_at S K (number e)
  lane_is = get-tabulate (lane_at S K) (2 * opened) (number e) no_lane (number-lt e opened h)

  pub input_room_is : (beside : ℕ) → input_room (rooms_of opened S beside) e ≡ (bevs_at S (number e)).upper.bev.input.spare
  input_room_is beside = get-tabulate (λ n. (bevs_at S n).upper.bev.input.spare) (2 * opened) (number e) 0 (number-lt e opened h)

  pub raw_input_room_is : (beside : ℕ) → raw_input_room (rooms_of opened S beside) e ≡ (bevs_at S (number e)).lower.bev.input.spare
  raw_input_room_is beside = get-tabulate (λ n. (bevs_at S n).lower.bev.input.spare) (2 * opened) (number e) 0 (number-lt e opened h)

  pub output_room_is : (beside : ℕ) → output_room (rooms_of opened S beside) e ≡ (bevs_at S (twin (number e))).upper.bev.output.spare
  output_room_is beside = get-tabulate (λ n. (bevs_at S (twin n)).upper.bev.output.spare) (2 * opened) (number e) 0 (number-lt e opened h)

  pub raw_output_room_is : (beside : ℕ) →
      raw_output_room (rooms_of opened S beside) e ≡ (bevs_at S (twin (number e))).lower.bev.output.spare
  raw_output_room_is beside =
      get-tabulate (λ n. (bevs_at S (twin n)).lower.bev.output.spare) (2 * opened) (number e) 0 (number-lt e opened h)

  pub has_input_room : (mark beside : ℕ) →
      (let b = bevs_at S (number e) in HasStepRoom b.upper.read_filter.kind (length b.lower.bev.input.bytes)
      (length b.upper.bev.input.bytes) mark
      b.upper.bev.input.spare beside (state_at K (number e)).read_made) →
      HasInputRoom mark (links_of opened S K) (rooms_of opened S beside) e
  has_input_room mark beside room =
      subst (λ (l : Lane). HasStepRoom l.reader.kind (length l.buffers.raw_input) (length l.buffers.input) mark
      (input_room (rooms_of opened S beside) e) beside l.read_made) (sym lane_is)
      (let l = lane_at S K (number e) in subst
      (λ (z : ℕ). HasStepRoom l.reader.kind (length l.buffers.raw_input) (length l.buffers.input) mark
      z beside l.read_made) (sym (input_room_is beside)) room)

  pub has_output_room : (hold count beside : ℕ) →
      (let b = bevs_at S (twin (number e)) in HasStepRoom b.upper.write_filter.kind count (length b.lower.bev.output.bytes) hold
      b.lower.bev.output.spare beside (state_at K (number e)).write_made) →
      HasOutputRoom hold count (links_of opened S K) (rooms_of opened S beside) e
  has_output_room hold count beside room =
      subst (λ (l : Lane). HasStepRoom l.writer.kind count (length l.buffers.raw_output) hold
      (raw_output_room (rooms_of opened S beside) e) beside l.write_made) (sym lane_is)
      (let l = lane_at S K (number e) in subst (λ (z : ℕ). HasStepRoom l.writer.kind count (length l.buffers.raw_output) hold
      z beside l.write_made) (sym (raw_output_room_is beside)) room)

-- the same, as the code reaches it

pub input_step_room : (w : WorldValue) (n at count made made2 mark beside : ℕ) → at ≡ upper_of n →
    count ≡ length (bevs_at w.slots n).lower.bev.input.bytes → made ≡ made2 →
    HasStepRoom (slot_at w at).read_filter.kind count (length (bev_at w at).input.bytes) mark (bev_at w at).input.spare beside made →
    (let b = bevs_at w.slots n in HasStepRoom b.upper.read_filter.kind (length b.lower.bev.input.bytes)
    (length b.upper.bev.input.bytes) mark
    b.upper.bev.input.spare beside made2)
input_step_room w n at count made made2 mark beside a c m room =
    let b = bevs_at w.slots n in
    subst (λ (z : ℕ). HasStepRoom b.upper.read_filter.kind (length b.lower.bev.input.bytes) (length b.upper.bev.input.bytes) mark
    b.upper.bev.input.spare beside z) m
    (subst (λ (z : ℕ). HasStepRoom b.upper.read_filter.kind z (length b.upper.bev.input.bytes) mark b.upper.bev.input.spare beside made) c
    (subst (λ (z : ℕ). HasStepRoom (slot_at w z).read_filter.kind count (length (bev_at w z).input.bytes) mark (bev_at w z).input.spare
    beside made) a room))

pub output_step_room : (w : WorldValue) (n at under count made made2 hold beside : ℕ) → at ≡ upper_of n → under ≡ lower_of n
    → made ≡ made2 →
    HasStepRoom (slot_at w at).write_filter.kind count (length (bev_at w under).output.bytes) hold
    (bev_at w under).output.spare beside made →
    (let b = bevs_at w.slots n in HasStepRoom b.upper.write_filter.kind count (length b.lower.bev.output.bytes) hold
    b.lower.bev.output.spare beside made2)
output_step_room w n at under count made made2 hold beside a u m room =
    let b = bevs_at w.slots n in
    subst (λ (z : ℕ). HasStepRoom b.upper.write_filter.kind count
    (length b.lower.bev.output.bytes) hold b.lower.bev.output.spare beside z) m
    (subst (λ (z : ℕ). HasStepRoom b.upper.write_filter.kind count (length (bev_at w z).output.bytes) hold (bev_at w z).output.spare
    beside made) u
    (subst (λ (z : ℕ). HasStepRoom (slot_at w z).write_filter.kind count (length (bev_at w under).output.bytes) hold
    (bev_at w under).output.spare beside made) a room))

-- room is given up

without-bytes : (x : Held) → (without_room x).bytes ≡ x.bytes
without-bytes x = go (length x.bytes == 0) refl
  where
    go : (b : Bool) → (length x.bytes == 0) ≡ b → (if b then nothing else x).bytes ≡ x.bytes
    go true e = sym (nil_from_length x.bytes (eqb-true (length x.bytes) 0 e))
    go false e = refl

pub without-spare : (x : Held) → length (without_room x).bytes ≡ 0 → (without_room x).spare ≡ 0
without-spare x = go (length x.bytes == 0) refl
  where
    go : (b : Bool) → (length x.bytes == 0) ≡ b → length (if b then nothing else x).bytes ≡ 0 → (if b then nothing else x).spare ≡ 0
    go true e h = refl
    go false e h = absurd (eqb-false (length x.bytes) 0 e h)

pub lower_given_up : (w w2 : WorldValue) (n at : ℕ) → at ≡ lower_of n → lower_of n < length w.slots → w2 ≡ roomless w at →
    Quiet w.slots w2.slots
lower_given_up w w2 n at a lt is =
    let s = slot_at w (lower_of n) in
    let x = without-bytes s.bev.input in
    let y = without-bytes s.bev.output in
    let b = bevs_at w.slots n in
    subst (λ (z : WorldValue). Quiet w.slots z.slots) (sym (is ∙ ap (roomless w) a))
    (lower_quiet w.slots n (record s { bev = given_up s.bev; room = 0 }) lt
    (λ i. record {
      left = (let l = left_of b in record l { raw_input = x i });
      right = (let r = right_of b in record r { raw_output = y i });
      kind = b.upper.kind;
      plain = λ t. plain_side b.lower.bev t;
    }))

pub upper_given_up : (w w2 : WorldValue) (n at : ℕ) → at ≡ upper_of n → upper_of n < length w.slots → w2 ≡ roomless w at →
    Quiet w.slots w2.slots
upper_given_up w w2 n at a lt is =
    let s = slot_at w (upper_of n) in
    let x = without-bytes s.bev.input in
    let y = without-bytes s.bev.output in
    let b = bevs_at w.slots n in
    subst (λ (z : WorldValue). Quiet w.slots z.slots) (sym (is ∙ ap (roomless w) a))
    (upper_quiet w.slots n (record s { bev = given_up s.bev; room = 0 }) lt
    (λ i. record {
      left = (let l = left_of b in record l { input = x i });
      right = (let r = right_of b in record r { output = y i });
      kind = b.upper.kind;
      plain = λ t. plain_side b.lower.bev t;
    }))

-- a change of a bufferevent of a side's end leaves each filter
pub lower_leaves_upper : (w w2 : WorldValue) (n at : ℕ) (b : BevValue) → at ≡ lower_of n → w2 ≡ with_bev w at b →
    (m : ℕ) → (bevs_at w2.slots m).upper ≡ (bevs_at w.slots m).upper
lower_leaves_upper w w2 n at b a is m =
    ap (λ (z : WorldValue). (bevs_at z.slots m).upper) is
    ∙ get_or-set_other w.slots at (upper_of m) (let s = slot_at w at in record s { bev = b }) no_slot (λ e. absurd (omega (arith, e, a)))

-- room for a read and for the step over it
pub read_step_room : (u : Slot) (b : Bevs) (count room limit beside made made2 : ℕ) → u ≡ b.upper →
    count ≡ length b.lower.bev.input.bytes + room → limit ≡ mark_or b.lower.bev.read_high most_at_once → made ≡ made2 →
    HasStepRoom u.read_filter.kind count (length u.bev.input.bytes) limit u.bev.input.spare beside made →
    HasStepRoom b.upper.read_filter.kind (length b.lower.bev.input.bytes + room) (length b.upper.bev.input.bytes)
    (mark_or b.lower.bev.read_high most_at_once) b.upper.bev.input.spare beside made2
read_step_room u b count room limit beside made made2 uq cq lq mq there =
    let u2 = b.upper in
    subst (λ (z : ℕ). HasStepRoom u2.read_filter.kind (length b.lower.bev.input.bytes + room) (length u2.bev.input.bytes)
    (mark_or b.lower.bev.read_high most_at_once) u2.bev.input.spare beside z) mq
    (subst (λ (z : ℕ). HasStepRoom u2.read_filter.kind (length b.lower.bev.input.bytes + room) (length u2.bev.input.bytes)
    z u2.bev.input.spare beside made) lq
    (subst (λ (z : ℕ). HasStepRoom u2.read_filter.kind z (length u2.bev.input.bytes) limit u2.bev.input.spare beside made) cq
    (subst (λ (z : Slot). HasStepRoom z.read_filter.kind count (length z.bev.input.bytes) limit z.bev.input.spare beside made) uq there)))

pub spare_here : (opened n ready readable : ℕ) → n < 2 * opened → ready ≡ n →
    readable ≤ slice_index_or (tabulate (λ k. if k == ready then readable else 0) (2 * opened)) n 0
spare_here opened n ready readable lt is =
    let seen = get-tabulate (λ k. if k == ready then readable else 0) (2 * opened) n 0 lt in
    omega (arith, seen, go (n == ready) refl)
  where
    go : (b : Bool) → (n == ready) ≡ b → (if b then readable else 0) ≡ readable
    go true q = refl
    go false q = absurd (eqb-false n ready q (sym is))
