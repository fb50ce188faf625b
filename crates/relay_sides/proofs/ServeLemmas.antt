-- What bytes that came, bytes that were taken and a freed side change: one side's two bufferevents, and what is counted of a direction.
use Rattle.std.proofs.Common.{◌≡◌, ◌≢◌, ℕ, ◌+◌, ◌*◌, ◌<◌, ◌≤◌, Bool, true, false, ◌==◌, if◌then◌else◌, List, length, slice_set, None, refl}
use Rattle.std.proofs.Common.{sym, ◌∙◌, ap, subst, arith, eqb-true, length-append, length-drop}
use Rattle.std.specs.Prelude.{vec_capacity}
use Rattle.std.proofs.lemmas.Bool.{eqb-false}
use Rattle.std.proofs.lemmas.List.{length-set, get_or-set_other}
use Rattle.token_bucket.specs.declared.limit.Dir.TheVariants.{Read, Write}
use Rattle.ev_types.specs.declared.side.SideId.{SideId}
use Rattle.ev_types.specs.Sides.{number, peer}
use Rattle.relay_model.specs.Plain.{PlainSide, no_side}
use Rattle.relay_model.specs.Flow.{Flow, no_flow}
use Rattle.relay_model.specs.Rooms.{most_at_once, mark_or}
use Rattle.relay_model.specs.Moments.{active_at}
use Rattle.relay_state.specs.State.{Lane, no_lane, lane_got, lane_taken, lane_left, lane_lost}
use Rattle.relay_state.specs.Serving.{flow_given}
use Rattle.bev_core.specs.BevValue.{BevValue}
use Rattle.bev_core.specs.Steps.{less, freed}
use Rattle.bev_filter.specs.StepRoom.{HasStepRoom}
use Rattle.bev_world.specs.ByNumber.{slot_fed}
use Rattle.bev_world.specs.WorldValue.{WorldValue, slot_at, with_slot}
use Rattle.bev_world.specs.declared.slot.Slot.{Slot}
use Rattle.relay_sides.specs.Bevs.{Bevs, bevs_at, lower_of, upper_of, twin}
use Rattle.relay_sides.specs.Links as links
use Rattle.relay_sides.specs.Links.{Links, with_got, after_took, read_mark}
use Rattle.relay_sides.specs.Rooms.{HasInputRoom}
use Rattle.relay_sides.specs.SidesValue.{SidesValue, spare_read}
use Rattle.relay_sides.specs.SideView.{state_at, plain_at, flow_at, lane_at, plain_side, flow_of, lane_of, limit_kept}
use Rattle.relay_sides.specs.SidesView.{links_of, rooms_of, sides_of, AreSides, IsCounted, CanRead}
use Rattle.relay_sides.specs.declared.sides.Sides.TheInside.{Inside}
use Rattle.relay_sides.specs.declared.side.SideState.{SideState}
use Rattle.relay_sides.proofs.TableLemmas.{get-tabulate, tabulate-same, tabulate-set, tabulate-two}
use Rattle.relay_sides.proofs.BevsLemmas.{number-lt, twin-number, twin-twin, twin-apart, peer-apart, set_lower-other, set_lower-same}
use Rattle.relay_sides.proofs.BevsLemmas.{set_upper-other, set_upper-same}
use Rattle.relay_sides.proofs.ChangeLemmas.{left_of, right_of, counted_of, everywhere, set_state-other, set_state-same, Apart, flow-apart}
use Rattle.relay_sides.proofs.ChangeLemmas.{lane-apart, gauges-same, counted-apart, filters-last}
use Rattle.relay_sides.proofs.SidesLemmas.{here, side_seen, lane_seen}
use Rattle.relay_sides.proofs.StepLemmas.{room-mono}
use Rattle.relay_sides.proofs.RoomLemmas.{Sound, lane_is, has_input_room}

-- the two bufferevents of one side change
pub record Changed (n : ℕ) (f : Bevs → Bevs) (S S' : List Slot) : Type 0 where
  pub count : length S' ≡ length S
  pub off : (m : ℕ) → m ≢ n → bevs_at S' m ≡ bevs_at S m
  pub at : bevs_at S' n ≡ f (bevs_at S n)

pub then_changed : (n : ℕ) (f g : Bevs → Bevs) (A B C : List Slot) → Changed n f A B → Changed n g B C → Changed n (λ b. g (f b)) A C
then_changed n f g A B C p q = record {
  count = q.count ∙ p.count;
  off = λ m d. q.off m d ∙ p.off m d;
  at = q.at ∙ ap g p.at;
}

pub lower_changed : (w w2 : WorldValue) (n at : ℕ) (f : Slot → Slot) → at ≡ lower_of n → lower_of n < length w.slots →
    w2 ≡ with_slot w at (f (slot_at w at)) → Changed n (λ b. record b { lower = f b.lower }) w.slots w2.slots
lower_changed w w2 n at f a lt is =
    let s = slot_at w (lower_of n) in
    subst (λ (z : WorldValue). Changed n (λ b. record b { lower = f b.lower }) w.slots z.slots)
    (sym (is ∙ ap (λ j. with_slot w j (f (slot_at w j))) a))
    (record {
      count = length-set w.slots (lower_of n) (f s);
      off = λ m d. set_lower-other w.slots n (f s) m d;
      at = set_lower-same w.slots n (f s) lt;
    })

pub upper_changed : (w w2 : WorldValue) (n at : ℕ) (f : Slot → Slot) → at ≡ upper_of n → upper_of n < length w.slots →
    w2 ≡ with_slot w at (f (slot_at w at)) → Changed n (λ b. record b { upper = f b.upper }) w.slots w2.slots
upper_changed w w2 n at f a lt is =
    let s = slot_at w (upper_of n) in
    subst (λ (z : WorldValue). Changed n (λ b. record b { upper = f b.upper }) w.slots z.slots)
    (sym (is ∙ ap (λ j. with_slot w j (f (slot_at w j))) a))
    (record {
      count = length-set w.slots (upper_of n) (f s);
      off = λ m d. set_upper-other w.slots n (f s) m d;
      at = set_upper-same w.slots n (f s) lt;
    })

-- what is kept beside those of one side changes
pub record StateChanged (n : ℕ) (f : SideState → SideState) (K K' : List SideState) : Type 0 where
  pub count : length K' ≡ length K
  pub off : (m : ℕ) → m ≢ n → state_at K' m ≡ state_at K m
  pub at : state_at K' n ≡ f (state_at K n)

pub state_changed : (K : List SideState) (n i : ℕ) (f : SideState → SideState) (y : SideState) → i ≡ n → n < length K →
    y ≡ f (state_at K n) → StateChanged n f K (slice_set K i y)
state_changed K n i f y a lt is =
    subst (λ (j : ℕ). StateChanged n f K (slice_set K j y)) (sym a)
    (record {
      count = length-set K n y;
      off = λ m d. set_state-other K n y m d;
      at = set_state-same K n y lt ∙ is;
    })

-- there is room for a read of so many bytes
pub can_read : (v : SidesValue) (r : Inside) → sides_of r ≡ v → (e : SideId) → e.link < v.links.opened → AreSides r → (count : ℕ)
    → 0 < count →
    count ≤ spare_read v e →
    CanRead (bevs_at r.world.slots (number e)) (state_at r.sides.items (number e)) (vec_capacity r.beside) r.spare count
can_read v r is e opened sound count some room =
    go (number e == r.ready) refl (omega (arith, room, ap (λ (z : SidesValue). spare_read z e) is, seen))
  where
    seen : spare_read (sides_of r) e ≡ (if number e == r.ready then r.readable else 0)
    seen = get-tabulate (λ n. if n == r.ready then r.readable else 0) (2 * r.opened) (number e) 0
        (number-lt e r.opened (here v r is e opened))

    fewer : CanRead (bevs_at r.world.slots (number e)) (state_at r.sides.items (number e)) (vec_capacity r.beside) r.spare r.readable →
        count ≤ r.readable →
        CanRead (bevs_at r.world.slots (number e)) (state_at r.sides.items (number e)) (vec_capacity r.beside) r.spare count
    fewer can le =
        let b = bevs_at r.world.slots (number e) in
        let s = state_at r.sides.items (number e) in
        record {
          counted = omega (arith, can.counted, le);
          kept = omega (arith, can.kept, le);
          step = room-mono b.upper.read_filter.kind (length b.lower.bev.input.bytes + count) (length b.lower.bev.input.bytes + r.readable)
              (length b.upper.bev.input.bytes) (mark_or b.lower.bev.read_high most_at_once) b.upper.bev.input.spare (vec_capacity r.beside)
              b.upper.bev.input.spare (vec_capacity r.beside) s.read_made (omega (arith, le)) (omega arith) (omega arith) can.step;
        }

    go : (b : Bool) → (number e == r.ready) ≡ b → count ≤ (if b then r.readable else 0) →
        CanRead (bevs_at r.world.slots (number e)) (state_at r.sides.items (number e)) (vec_capacity r.beside) r.spare count
    go true q le =
        fewer (subst (λ (z : ℕ). CanRead (bevs_at r.world.slots z) (state_at r.sides.items z) (vec_capacity r.beside) r.spare r.readable)
        (sym (eqb-true (number e) r.ready q)) (sound.read_room (omega (arith, some, le))).1) le
    go false q le = absurd (omega (arith, some, le))

-- so that there is room for the step of the read filter over them
pub step_there : (v : SidesValue) (r : Inside) → sides_of r ≡ v → (e : SideId) → e.link < v.links.opened → AreSides r → (room : ℕ)
    → 0 < room → room ≤ spare_read v e → (at count limit made : ℕ) → at ≡ upper_of (number e) →
    (let b = bevs_at r.world.slots (number e) in count ≡ length b.lower.bev.input.bytes + room) →
    (let b = bevs_at r.world.slots (number e) in limit ≡ mark_or b.lower.bev.read_high most_at_once) →
    made ≡ (state_at r.sides.items (number e)).read_made →
    (let u = slot_at r.world at in HasStepRoom u.read_filter.kind count (length u.bev.input.bytes) limit u.bev.input.spare
    (vec_capacity r.beside) made)
step_there v r is e opened sound room some le at count limit made at_is count_is limit_is made_is =
    let can = can_read v r is e opened sound room some le in
    let b = bevs_at r.world.slots (number e) in
    subst (λ (z : ℕ). (let u = slot_at r.world z in HasStepRoom u.read_filter.kind count (length u.bev.input.bytes) limit u.bev.input.spare
    (vec_capacity r.beside) made)) (sym at_is)
    (subst (λ (z : ℕ). HasStepRoom b.upper.read_filter.kind z (length b.upper.bev.input.bytes) limit b.upper.bev.input.spare
    (vec_capacity r.beside) made) (sym count_is)
    (subst (λ (z : ℕ). HasStepRoom b.upper.read_filter.kind (length b.lower.bev.input.bytes + room) (length b.upper.bev.input.bytes) z
    b.upper.bev.input.spare (vec_capacity r.beside) made) (sym limit_is)
    (subst (λ (z : ℕ). HasStepRoom b.upper.read_filter.kind (length b.lower.bev.input.bytes + room) (length b.upper.bev.input.bytes)
    (mark_or b.lower.bev.read_high most_at_once) b.upper.bev.input.spare (vec_capacity r.beside) z) (sym made_is) can.step)))

-- bytes came
abbrev pub bevs_brought : List ℕ → ℕ → ℕ → Bevs → Bevs
bevs_brought bytes time spare b = record b { lower = slot_fed bytes time spare b.lower }

abbrev pub state_brought : List ℕ → SideState → SideState
state_brought bytes s = record s { read = s.read + length bytes }

pub brought_of : (bytes : List ℕ) (n : ℕ) (s z : SideState) → n ≡ length bytes → z ≡ s →
    record z { read = z.read + n } ≡ state_brought bytes s
brought_of bytes n s z is same = ap (λ (y : SideState). record y { read = y.read + n }) same ∙ ap (λ k. record s { read = s.read + k }) is

module _ (v : SidesValue) (r : Inside) (is : sides_of r ≡ v) (e : SideId) (opened : e.link < v.links.opened) (sound : AreSides r)
    (bytes : List ℕ) (time spare : ℕ) (S' : List Slot) (K' : List SideState)
    (p : Changed (number e) (bevs_brought bytes time spare) r.world.slots S')
    (q : StateChanged (number e) (state_brought bytes) r.sides.items K') where
  lt : number e < 2 * r.opened
  lt = number-lt e r.opened (here v r is e opened)

  far : bevs_at S' (twin (number e)) ≡ bevs_at r.world.slots (twin (number e))
  far = p.off (twin (number e)) (twin-apart (number e))

  brought-apart : Apart (number e) r.world.slots S' r.sides.items K'
  brought-apart = record {
    left = λ m d. ap left_of (p.off m d);
    right = λ m d. everywhere (λ m. right_of (bevs_at r.world.slots m)) (λ m. right_of (bevs_at S' m)) (number e)
        (λ m d. ap right_of (p.off m d)) (ap right_of p.at) m;
    counted = λ m d. ap counted_of (q.off m d);
    limits = everywhere (λ m. limit_kept (state_at r.sides.items m)) (λ m. limit_kept (state_at K' m)) (number e)
        (λ m d. ap limit_kept (q.off m d)) (ap limit_kept q.at);
  }

  flow-there : flow_at S' K' (number e) ≡ flow_at r.world.slots r.sides.items (number e)
  flow-there = λ i. flow_of (p.at i) (far i) (q.at i)

  lane-there : lane_at S' K' (number e) ≡ lane_got bytes (lane_at r.world.slots r.sides.items (number e))
  lane-there = λ i. lane_of (p.at i) (far i) (q.at i)

  flow-all : (m : ℕ) → flow_at S' K' m ≡ flow_at r.world.slots r.sides.items m
  flow-all = everywhere (flow_at r.world.slots r.sides.items) (flow_at S' K') (number e)
      (flow-apart r.world.slots S' r.sides.items K' (number e) brought-apart) flow-there

  pub brought-links : links_of r.opened S' K' ≡ with_got time e bytes v.links
  brought-links =
      let S : List Slot = r.world.slots in
      let K : List SideState = r.sides.items in
      let n : ℕ = number e in
      let k : Links = links_of r.opened S K in
      let own : links.side_at k e ≡ plain_at S K n = get-tabulate (plain_at S K) (2 * r.opened) n no_side lt in
      let sides = tabulate-set (plain_at S K) (plain_at S' K') (2 * r.opened) n
      (λ m d. (λ i. plain_side (p.off m d i).lower.bev (q.off m d i))) in
      let flows = tabulate-same (flow_at S K) (flow_at S' K') (2 * r.opened) flow-all in
      let lanes = tabulate-set (lane_at S K) (lane_at S' K') (2 * r.opened) n (lane-apart S S' K K' n brought-apart) in
      let gauges = gauges-same S S' K K' r.opened brought-apart.limits in
      let here_is : plain_at S' K' n ≡ active_at time Read (plain_at S K n) = λ i. plain_side (p.at i).lower.bev (q.at i) in
      let x = here_is ∙ ap (active_at time Read) (sym own) in
      let l = lane-there ∙ ap (lane_got bytes) (sym (lane_is r.opened S K e (here v r is e opened))) in
      (λ i. record { opened = r.opened; sides = sides i; flows = flows i; lanes = lanes i; gauges = gauges i })
      ∙ (λ i. record k { sides = slice_set k.sides n (x i); lanes = slice_set k.lanes n (l i) })
      ∙ ap (λ (z : SidesValue). with_got time e bytes z.links) is

  pub brought-sound : Sound r.opened S' K'
  brought-sound = record {
    slots = p.count ∙ sound.slots;
    sides = q.count ∙ sound.sides;
    filters = filters-last r.world.slots S' r.sides.items K' (2 * r.opened) (record {
      slots = p.count;
      sides = q.count;
      kinds = everywhere (λ m. (bevs_at r.world.slots m).upper.kind) (λ m. (bevs_at S' m).upper.kind) (number e)
          (λ m d. ap (λ (z : Bevs). z.upper.kind) (p.off m d)) (ap (λ (z : Bevs). z.upper.kind) p.at);
    }) sound.filters;
    counted = counted-apart r.world.slots S' r.sides.items K' (number e) brought-apart (2 * r.opened) sound.counted
        (subst (λ (l : Lane). IsCounted (flow_at S' K' (number e)) l) (sym lane-there)
        (subst (λ (f : Flow). IsCounted f (lane_got bytes (lane_at r.world.slots r.sides.items (number e)))) (sym flow-there)
        (let c = sound.counted (number e) lt in
        let l = lane_at r.world.slots r.sides.items (number e) in
        record {
          used = omega (arith, c.used, length-append l.buffers.raw_input bytes);
          moved = c.moved;
          turned = c.turned;
          given = c.given;
        })));
  }

  pub brought-room : CanRead (bevs_at r.world.slots (number e)) (state_at r.sides.items (number e)) (vec_capacity r.beside) r.spare
      (length bytes) →
      HasInputRoom (read_mark v.links e) (links_of r.opened S' K') (rooms_of r.opened S' (vec_capacity r.beside)) e
  brought-room can =
      let b = bevs_at r.world.slots (number e) in
      let s = state_at r.sides.items (number e) in
      let mark = ap (λ (z : PlainSide). mark_or z.marks.read_high most_at_once) (side_seen v r is e opened) in
      has_input_room r.opened S' K' e (here v r is e opened) (read_mark v.links e) (vec_capacity r.beside)
      (subst (λ (z : ℕ). (let y = bevs_at S' (number e) in HasStepRoom y.upper.read_filter.kind (length y.lower.bev.input.bytes)
      (length y.upper.bev.input.bytes) z y.upper.bev.input.spare (vec_capacity r.beside) (state_at K' (number e)).read_made)) (sym mark)
      (subst (λ (t : SideState). (let y = bevs_at S' (number e) in HasStepRoom y.upper.read_filter.kind (length y.lower.bev.input.bytes)
      (length y.upper.bev.input.bytes) (mark_or b.lower.bev.read_high most_at_once) y.upper.bev.input.spare (vec_capacity r.beside)
      t.read_made)) (sym q.at)
      (subst (λ (y : Bevs). HasStepRoom y.upper.read_filter.kind (length y.lower.bev.input.bytes)
      (length y.upper.bev.input.bytes) (mark_or b.lower.bev.read_high most_at_once) y.upper.bev.input.spare (vec_capacity r.beside)
      s.read_made) (sym p.at)
      (subst (λ (z : ℕ). HasStepRoom b.upper.read_filter.kind z
      (length b.upper.bev.input.bytes) (mark_or b.lower.bev.read_high most_at_once) b.upper.bev.input.spare (vec_capacity r.beside)
      s.read_made) (sym (length-append b.lower.bev.input.bytes bytes)) can.step))))

-- the first bytes of the output were taken
abbrev pub bevs_took : ℕ → ℕ → ℕ → Bevs → Bevs
bevs_took count spare time b =
    let s = b.lower in
    record b { lower = record s { bev = record s.bev { output = less s.bev.output count spare; last_write = time } } }

abbrev pub state_given : ℕ → SideState → SideState
state_given count s = record s { given = s.given + count }

module _ (v : SidesValue) (r : Inside) (is : sides_of r ≡ v) (e : SideId) (opened : e.link < v.links.opened) (sound : AreSides r)
    (count spare time : ℕ) (S' : List Slot) (K' : List SideState)
    (p : Changed (number e) (bevs_took count spare time) r.world.slots S')
    (q : StateChanged (twin (number e)) (state_given count) r.sides.items K') where
  took-lt : twin (number e) < 2 * r.opened
  took-lt = omega (arith, number-lt (peer e) r.opened (here v r is e opened), twin-number e)

  took-far : bevs_at S' (twin (number e)) ≡ bevs_at r.world.slots (twin (number e))
  took-far = p.off (twin (number e)) (twin-apart (number e))

  took-near : bevs_at S' (twin (twin (number e))) ≡ bevs_took count spare time (bevs_at r.world.slots (twin (twin (number e))))
  took-near =
      ap (bevs_at S') (twin-twin (number e)) ∙ p.at
      ∙ ap (λ j. bevs_took count spare time (bevs_at r.world.slots j)) (sym (twin-twin (number e)))

  took-apart : Apart (twin (number e)) r.world.slots S' r.sides.items K'
  took-apart = record {
    left = λ m d. everywhere (λ m. left_of (bevs_at r.world.slots m)) (λ m. left_of (bevs_at S' m)) (number e)
        (λ m d. ap left_of (p.off m d)) (ap left_of p.at) m;
    right = λ m d. ap right_of (p.off m (λ h. d (h ∙ sym (twin-twin (number e)))));
    counted = λ m d. ap counted_of (q.off m d);
    limits = everywhere (λ m. limit_kept (state_at r.sides.items m)) (λ m. limit_kept (state_at K' m)) (twin (number e))
        (λ m d. ap limit_kept (q.off m d)) (ap limit_kept q.at);
  }

  took-flow : flow_at S' K' (twin (number e)) ≡ flow_given count (flow_at r.world.slots r.sides.items (twin (number e)))
  took-flow = λ i. flow_of (took-far i) (took-near i) (q.at i)

  took-lane : lane_at S' K' (twin (number e)) ≡ lane_taken count (lane_at r.world.slots r.sides.items (twin (number e)))
  took-lane = λ i. lane_of (took-far i) (took-near i) (q.at i)

  took-plain : (m : ℕ) (b : BevValue) → plain_side b (state_at K' m) ≡ plain_side b (state_at r.sides.items m)
  took-plain m b =
      everywhere (λ m. plain_side b (state_at r.sides.items m)) (λ m. plain_side b (state_at K' m)) (twin (number e))
      (λ m d. ap (plain_side b) (q.off m d)) (ap (plain_side b) q.at) m

  pub took-links : links_of r.opened S' K' ≡ after_took time e count v.links
  took-links =
      let S : List Slot = r.world.slots in
      let K : List SideState = r.sides.items in
      let n : ℕ = number e in
      let t : ℕ = number (peer e) in
      let k : Links = links_of r.opened S K in
      let h : e.link < r.opened = here v r is e opened in
      let own : links.side_at k e ≡ plain_at S K n = get-tabulate (plain_at S K) (2 * r.opened) n no_side (number-lt e r.opened h) in
      let flow : links.flow_at k (peer e) ≡ flow_at S K (twin n) =
      get-tabulate (flow_at S K) (2 * r.opened) t no_flow (number-lt (peer e) r.opened h) ∙ ap (flow_at S K) (twin-number e) in
      let lane : links.lane_at k (peer e) ≡ lane_at S K (twin n) =
      get-tabulate (lane_at S K) (2 * r.opened) t no_lane (number-lt (peer e) r.opened h) ∙ ap (lane_at S K) (twin-number e) in
      let sides = tabulate-set (plain_at S K) (plain_at S' K') (2 * r.opened) n
      (λ m d. ap (λ (z : Bevs). plain_side z.lower.bev (state_at K' m)) (p.off m d) ∙ took-plain m (bevs_at S m).lower.bev) in
      let flows = tabulate-set (flow_at S K) (flow_at S' K') (2 * r.opened) (twin n) (flow-apart S S' K K' (twin n) took-apart) in
      let lanes = tabulate-set (lane_at S K) (lane_at S' K') (2 * r.opened) (twin n) (lane-apart S S' K K' (twin n) took-apart) in
      let x : plain_at S' K' n ≡ active_at time Write (links.side_at k e) =
      took-plain n (bevs_at S' n).lower.bev ∙ ap (λ (z : Bevs). plain_side z.lower.bev (state_at K n)) p.at
      ∙ ap (active_at time Write) (sym own) in
      let gauges = gauges-same S S' K K' r.opened took-apart.limits in
      let f = took-flow ∙ ap (flow_given count) (sym flow) in
      let l = took-lane ∙ ap (lane_taken count) (sym lane) in
      (λ i. record { opened = r.opened; sides = sides i; flows = flows i; lanes = lanes i; gauges = gauges i })
      ∙ (λ i. record {
        opened = r.opened;
        gauges = k.gauges;
        sides = slice_set k.sides n (x i);
        flows = slice_set k.flows (sym (twin-number e) i) (f i);
        lanes = slice_set k.lanes (sym (twin-number e) i) (l i);
      })
      ∙ ap (λ (z : SidesValue). after_took time e count z.links) is

  -- no more can be given than was made
  pub took-within : count ≤ length (links.lane_at v.links (peer e)).buffers.raw_output →
      count ≤ length (lane_at r.world.slots r.sides.items (twin (number e))).buffers.raw_output
  took-within within =
      omega (
        arith,
        within,
        ap (λ (l : Lane). length l.buffers.raw_output) (lane_seen v r is (peer e) opened),
        ap (λ j. length (lane_at r.world.slots r.sides.items j).buffers.raw_output) (twin-number e),
      )

  pub took-sound : count ≤ length (links.lane_at v.links (peer e)).buffers.raw_output → Sound r.opened S' K'
  took-sound within = record {
    slots = p.count ∙ sound.slots;
    sides = q.count ∙ sound.sides;
    filters = filters-last r.world.slots S' r.sides.items K' (2 * r.opened) (record {
      slots = p.count;
      sides = q.count;
      kinds = everywhere (λ m. (bevs_at r.world.slots m).upper.kind) (λ m. (bevs_at S' m).upper.kind) (number e)
          (λ m d. ap (λ (z : Bevs). z.upper.kind) (p.off m d)) (ap (λ (z : Bevs). z.upper.kind) p.at);
    }) sound.filters;
    counted = counted-apart r.world.slots S' r.sides.items K' (twin (number e)) took-apart (2 * r.opened) sound.counted
        (subst (λ (l : Lane). IsCounted (flow_at S' K' (twin (number e))) l) (sym took-lane)
        (subst (λ (f : Flow). IsCounted f (lane_taken count (lane_at r.world.slots r.sides.items (twin (number e))))) (sym took-flow)
        (let c = sound.counted (twin (number e)) took-lt in
        let l = lane_at r.world.slots r.sides.items (twin (number e)) in
        record {
          used = c.used;
          moved = c.moved;
          turned = c.turned;
          given = omega (arith, c.given, took-within within, length-drop count l.buffers.raw_output);
        })));
  }

-- so many bytes can be given and counted
pub can_give : (v : SidesValue) (r : Inside) → sides_of r ≡ v → (e : SideId) → e.link < v.links.opened → AreSides r → (count : ℕ) →
    count ≤ length (links.lane_at v.links (peer e)).buffers.raw_output →
    (let s = state_at r.sides.items (number (peer e)) in s.given + count ≤ s.write_made)
can_give v r is e opened sound count within =
    let c = sound.counted (number (peer e)) (number-lt (peer e) r.opened (here v r is e opened)) in
    omega (arith, c.given, within, ap (λ (l : Lane). length l.buffers.raw_output) (lane_seen v r is (peer e) opened))

-- a side is freed
abbrev pub slot_off : Slot → Slot
slot_off s = record s { bev = freed s.bev; room = 0 }

abbrev pub bevs_off : Bevs → Bevs
bevs_off b = record { lower = slot_off b.lower; upper = slot_off b.upper }

abbrev pub side_off : PlainSide → PlainSide
side_off x = record x { live = false; group = None }

module _ (v : SidesValue) (r : Inside) (is : sides_of r ≡ v) (e : SideId) (opened : e.link < v.links.opened) (sound : AreSides r)
    (S' : List Slot) (p : Changed (number e) bevs_off r.world.slots S') where
  off-far : bevs_at S' (twin (number e)) ≡ bevs_at r.world.slots (twin (number e))
  off-far = p.off (twin (number e)) (twin-apart (number e))

  off-near : bevs_at S' (twin (twin (number e))) ≡ bevs_off (bevs_at r.world.slots (twin (twin (number e))))
  off-near =
      ap (bevs_at S') (twin-twin (number e)) ∙ p.at ∙ ap (λ j. bevs_off (bevs_at r.world.slots j)) (sym (twin-twin (number e)))

  off-reader : (m : ℕ) → (bevs_at S' m).upper.read_filter ≡ (bevs_at r.world.slots m).upper.read_filter
  off-reader = everywhere (λ m. (bevs_at r.world.slots m).upper.read_filter) (λ m. (bevs_at S' m).upper.read_filter) (number e)
      (λ m d. ap (λ (z : Bevs). z.upper.read_filter) (p.off m d)) (ap (λ (z : Bevs). z.upper.read_filter) p.at)

  off-writer : (m : ℕ) → (bevs_at S' m).upper.write_filter ≡ (bevs_at r.world.slots m).upper.write_filter
  off-writer = everywhere (λ m. (bevs_at r.world.slots m).upper.write_filter) (λ m. (bevs_at S' m).upper.write_filter) (number e)
      (λ m d. ap (λ (z : Bevs). z.upper.write_filter) (p.off m d)) (ap (λ (z : Bevs). z.upper.write_filter) p.at)

  off-flow : (m : ℕ) → flow_at S' r.sides.items m ≡ flow_at r.world.slots r.sides.items m
  off-flow m =
      let a = off-reader m in
      let b = off-writer (twin m) in
      let s = state_at r.sides.items m in
      λ i. record {
        used = (a i).used;
        moved = s.moved;
        turned = (b i).used;
        given = s.given;
        read_done = (a i).finished;
        write_done = (b i).finished;
        held = s.held;
      }

  off-lane : (m : ℕ) → m ≢ number e → m ≢ twin (number e) → lane_at S' r.sides.items m ≡ lane_at r.world.slots r.sides.items m
  off-lane m d d2 =
      let a = p.off m d in
      let b = p.off (twin m) (λ h. d2 (sym (twin-twin m) ∙ ap twin h)) in
      λ i. lane_of (a i) (b i) (state_at r.sides.items m)

  off-own : lane_at S' r.sides.items (number e) ≡ lane_left (lane_at r.world.slots r.sides.items (number e))
  off-own = λ i. lane_of (p.at i) (off-far i) (state_at r.sides.items (number e))

  off-other : lane_at S' r.sides.items (twin (number e)) ≡ lane_lost (lane_at r.world.slots r.sides.items (twin (number e)))
  off-other = λ i. lane_of (off-far i) (off-near i) (state_at r.sides.items (twin (number e)))

  pub off-links : links_of r.opened S' r.sides.items ≡ links.freed e v.links
  off-links =
      let S : List Slot = r.world.slots in
      let K : List SideState = r.sides.items in
      let n : ℕ = number e in
      let t : ℕ = number (peer e) in
      let k : Links = links_of r.opened S K in
      let h : e.link < r.opened = here v r is e opened in
      let own : links.side_at k e ≡ plain_at S K n = get-tabulate (plain_at S K) (2 * r.opened) n no_side (number-lt e r.opened h) in
      let near : links.lane_at k e ≡ lane_at S K n = lane_is r.opened S K e h in
      let far : links.lane_at k (peer e) ≡ lane_at S K (twin n) =
      get-tabulate (lane_at S K) (2 * r.opened) t no_lane (number-lt (peer e) r.opened h) ∙ ap (lane_at S K) (twin-number e) in
      let apart = get_or-set_other k.lanes n t (lane_left (links.lane_at k e)) no_lane (peer-apart e) in
      let sides = tabulate-set (plain_at S K) (plain_at S' K) (2 * r.opened) n
      (λ m d. ap (λ (z : Bevs). plain_side z.lower.bev (state_at K m)) (p.off m d)) in
      let flows = tabulate-same (flow_at S K) (flow_at S' K) (2 * r.opened) off-flow in
      let lanes = tabulate-two (lane_at S K) (lane_at S' K) (2 * r.opened) n (twin n) (λ q. twin-apart n (sym q)) off-lane in
      let x : plain_at S' K n ≡ side_off (links.side_at k e) =
      ap (λ (z : Bevs). plain_side z.lower.bev (state_at K n)) p.at ∙ ap side_off (sym own) in
      let a = off-own ∙ ap lane_left (sym near) in
      let b = off-other ∙ ap lane_lost (sym far ∙ sym apart) in
      (λ i. record { opened = r.opened; sides = sides i; flows = flows i; lanes = lanes i; gauges = k.gauges })
      ∙ (λ i. record {
        opened = r.opened;
        gauges = k.gauges;
        sides = slice_set k.sides n (x i);
        flows = k.flows;
        lanes = slice_set (slice_set k.lanes n (a i)) (sym (twin-number e) i) (lane_at S' K (twin n));
      })
      ∙ (λ i. record {
        opened = r.opened;
        gauges = k.gauges;
        sides = slice_set k.sides n (side_off (links.side_at k e));
        flows = k.flows;
        lanes = slice_set (slice_set k.lanes n (lane_left (links.lane_at k e))) t (b i);
      })
      ∙ ap (λ (z : SidesValue). links.freed e z.links) is

  off-counted : (m : ℕ) → m < 2 * r.opened → IsCounted (flow_at S' r.sides.items m) (lane_at S' r.sides.items m)
  off-counted m h =
      subst (λ (f : Flow). IsCounted f (lane_at S' r.sides.items m)) (sym (off-flow m)) (go (m == number e) refl)
    where
      c : IsCounted (flow_at r.world.slots r.sides.items m) (lane_at r.world.slots r.sides.items m)
      c = sound.counted m h

      there : (b : Bool) → m ≢ number e → (m == twin (number e)) ≡ b →
          IsCounted (flow_at r.world.slots r.sides.items m) (lane_at S' r.sides.items m)
      there true d q =
          let w = eqb-true m (twin (number e)) q in
          subst (λ (l : Lane). IsCounted (flow_at r.world.slots r.sides.items m) l)
          (sym (ap (lane_at S' r.sides.items) w ∙ off-other ∙ ap (λ j. lane_lost (lane_at r.world.slots r.sides.items j)) (sym w)))
          (record { used = c.used; moved = c.moved; turned = omega (arith, c.turned); given = omega (arith, c.given) })
      there false d q =
          subst (λ (l : Lane). IsCounted (flow_at r.world.slots r.sides.items m) l)
          (sym (off-lane m d (eqb-false m (twin (number e)) q))) c

      go : (b : Bool) → (m == number e) ≡ b → IsCounted (flow_at r.world.slots r.sides.items m) (lane_at S' r.sides.items m)
      go true q =
          let w = eqb-true m (number e) q in
          subst (λ (l : Lane). IsCounted (flow_at r.world.slots r.sides.items m) l)
          (sym (ap (lane_at S' r.sides.items) w ∙ off-own ∙ ap (λ j. lane_left (lane_at r.world.slots r.sides.items j)) (sym w)))
          (record { used = omega (arith, c.used); moved = omega (arith, c.moved); turned = c.turned; given = c.given })
      go false q = there (m == twin (number e)) (eqb-false m (number e) q) refl

  pub off-sound : Sound r.opened S' r.sides.items
  off-sound = record {
    slots = p.count ∙ sound.slots;
    sides = sound.sides;
    filters = filters-last r.world.slots S' r.sides.items r.sides.items (2 * r.opened) (record {
      slots = p.count;
      sides = refl;
      kinds = everywhere (λ m. (bevs_at r.world.slots m).upper.kind) (λ m. (bevs_at S' m).upper.kind) (number e)
          (λ m d. ap (λ (z : Bevs). z.upper.kind) (p.off m d)) (ap (λ (z : Bevs). z.upper.kind) p.at);
    }) sound.filters;
    counted = off-counted;
  }
