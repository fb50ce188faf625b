-- What opening a link anew changes: its four bufferevents, and the two states beside them.
use Rattle.std.proofs.Common.{◌≡◌, ◌≢◌, ℕ, ◌+◌, ◌*◌, ◌<◌, Bool, true, false, ◌==◌, List, length, slice_index_or, slice_set, refl, sym, ◌∙◌}
use Rattle.std.proofs.Common.{ap, subst, arith, eqb-true}
use Rattle.std.specs.Prelude.{Option, Some, None, option_map, Box}
use Rattle.std.specs.declared.alloc.Global.{Global}
use Rattle.std.specs.Global.{Vec}
use Rattle.std.proofs.lemmas.Bool.{eqb-false}
use Rattle.std.proofs.lemmas.List.{get_or-set_same, get_or-set_other, set-set, length-set}
use Rattle.token_bucket.specs.declared.limit.Dir.TheVariants.{Read, Write}
use Rattle.token_bucket.specs.declared.limit.LimitCfg.{LimitCfg}
use Rattle.ev_types.specs.declared.filter.FilterKind.{FilterKind}
use Rattle.ev_types.specs.declared.filter.FilterKind.TheVariants as kind
use Rattle.ev_types.specs.Sides.{number}
use Rattle.filter_model.specs.FilterStep.{begun}
use Rattle.bev_core.specs.BevValue.{BevValue, new_chunked}
use Rattle.bev_core.specs.Steps.{with_enabled, with_marks, with_timeouts}
use Rattle.bev_world.specs.ByNumber.{renewed}
use Rattle.bev_world.specs.WorldValue.{WorldValue, no_slot, slot_at, bev_at, with_slot, with_bev}
use Rattle.bev_world.specs.declared.slot.Kind.{Kind}
use Rattle.bev_world.specs.declared.slot.Slot.{Slot}
use Rattle.relay_model.specs.Flow.{Flow, no_flow}
use Rattle.relay_model.specs.Plain.{first_limit}
use Rattle.relay_state.specs.Closing.{in_side, out_side}
use Rattle.relay_state.specs.Running.{gauge_begun}
use Rattle.relay_state.specs.State.{Lane}
use Rattle.side_limit.specs.LimitValue.{LimitValue}
use Rattle.relay_sides.specs.Bevs.{Bevs, bevs_at, lower_of, upper_of, twin}
use Rattle.relay_sides.specs.Table.{tabulate}
use Rattle.relay_sides.specs.Links.{opening_side, fresh_lane, with_new_link}
use Rattle.relay_sides.specs.KeptLimits.{kept_value, first_kept}
use Rattle.relay_sides.specs.Opening.{opening_bev, side_renewed}
use Rattle.relay_sides.specs.SideView.{new_state, state_at, plain_side, plain_at, flow_of, flow_at, lane_of, lane_at, gauge_at, gauge_of}
use Rattle.relay_sides.specs.SideView.{gauge_by}
use Rattle.relay_sides.specs.SidesView.{links_of, IsCounted, AreSides}
use Rattle.relay_sides.specs.declared.side.SideState.{SideState}
use Rattle.relay_sides.specs.declared.sides.Sides.TheInside.{Inside}
use Rattle.relay_sides.specs.declared.opening.NewSide.{NewSide}
use Rattle.relay_sides.proofs.TableLemmas.{tabulate-two}
use Rattle.relay_sides.proofs.BevsLemmas.{set_lower-other, set_lower-same, set_upper-other, set_upper-same}
use Rattle.relay_sides.proofs.ChangeLemmas.{everywhere, set_state-other, set_state-same, Lasting}
use Rattle.relay_sides.proofs.FlagLemmas.{are_sound}

-- The two bufferevents of a side are made new, one after the other

module _ (w0 : WorldValue) (n : ℕ) (there : n < length w0.slots) where
  one_changed : (s : Slot) (f : BevValue → BevValue) →
      with_bev (with_slot w0 n s) n (f (bev_at (with_slot w0 n s) n)) ≡ with_slot w0 n (record s { bev = f s.bev })
  one_changed s f =
      let at = get_or-set_same w0.slots n s no_slot there in
      (λ i. with_slot (with_slot w0 n s) n (let x : Slot = at i in record x { bev = f x.bev }))
      ∙ ap (λ (xs : List Slot). record w0 { slots = xs }) (set-set w0.slots n s (record s { bev = f s.bev }))

  next : (w w' : WorldValue) (s : Slot) (f : BevValue → BevValue) → w ≡ with_slot w0 n s → w' ≡ with_bev w n (f (bev_at w n)) →
      w' ≡ with_slot w0 n (record s { bev = f s.bev })
  next w w' s f e g = g ∙ (λ i. with_bev (e i) n (f (bev_at (e i) n))) ∙ one_changed s f

  pub bevs_renewed : (w1 w2 w3 w4 w5 w6 : WorldValue) (time : ℕ) (side : NewSide) → w1 ≡ renewed w0 n kind.None kind.None →
      w2 ≡ with_bev w1 n (with_enabled (bev_at w1 n) Read true) →
      w3 ≡ with_bev w2 n (with_marks (bev_at w2 n) Read side.marks.read_low side.marks.read_high) →
      w4 ≡ with_bev w3 n (with_marks (bev_at w3 n) Write side.marks.write_low side.marks.write_high) →
      w5 ≡ with_bev w4 n (with_timeouts (bev_at w4 n) side.timeouts.read_ms side.timeouts.write_ms time) →
      w6 ≡ renewed w5 (n + 1) side.read side.write → w6.slots ≡ side_renewed w0.chunked time side n w0.slots
  bevs_renewed w1 w2 w3 w4 w5 w6 time side e1 e2 e3 e4 e5 e6 =
      let none = begun kind.None in
      let s0 : Slot = slot_at w0 n in
      let s1 : Slot = record s0 { bev = new_chunked w0.chunked; room = 0; read_filter = none; write_filter = none } in
      let f2 : BevValue → BevValue = λ b. with_enabled b Read true in
      let f3 : BevValue → BevValue = λ b. with_marks b Read side.marks.read_low side.marks.read_high in
      let f4 : BevValue → BevValue = λ b. with_marks b Write side.marks.write_low side.marks.write_high in
      let f5 : BevValue → BevValue = λ b. with_timeouts b side.timeouts.read_ms side.timeouts.write_ms time in
      let s2 : Slot = record s1 { bev = f2 s1.bev } in
      let s3 : Slot = record s2 { bev = f3 s2.bev } in
      let s4 : Slot = record s3 { bev = f4 s3.bev } in
      let s5 : Slot = record s4 { bev = f5 s4.bev } in
      let g2 = next w1 w2 s1 f2 e1 e2 in
      let g3 = next w2 w3 s2 f3 g2 e3 in
      let g4 = next w3 w4 s3 f4 g3 e4 in
      let g5 = next w4 w5 s4 f5 g4 e5 in
      let over = get_or-set_other w0.slots n (n + 1) s5 no_slot (λ e. absurd (omega (arith, e))) in
      ap (λ (w : WorldValue). w.slots) e6
      ∙ (λ i. (renewed (g5 i) (n + 1) side.read side.write).slots)
      ∙ (λ i. slice_set (slice_set w0.slots n s5) (n + 1) (let x : Slot = over i in record x {
        bev = new_chunked w0.chunked;
        room = 0;
        read_filter = begun side.read;
        write_filter = begun side.write;
      }))

-- The bufferevents of all sides, once those of one are new

module _ (time : ℕ) (side : NewSide) (n : ℕ) (S : List Slot) where
  abbrev lower_new : Slot
  lower_new =
      let s = slice_index_or S (lower_of n) no_slot in
      let none = begun kind.None in
      record s { bev = opening_bev false time side; room = 0; read_filter = none; write_filter = none }

  abbrev upper_new : Slot
  upper_new =
      let s = slice_index_or S (upper_of n) no_slot in
      record s { bev = new_chunked false; room = 0; read_filter = begun side.read; write_filter = begun side.write }

  abbrev pub new_bevs : Bevs
  new_bevs = record { lower = lower_new; upper = upper_new }

  abbrev with_lower : List Slot
  with_lower = slice_set S (lower_of n) lower_new

  renewed-other : (m : ℕ) → m ≢ n → bevs_at (side_renewed false time side (lower_of n) S) m ≡ bevs_at S m
  renewed-other m d = set_upper-other with_lower n upper_new m d ∙ set_lower-other S n lower_new m d

  renewed-length : length (side_renewed false time side (lower_of n) S) ≡ length S
  renewed-length = length-set with_lower (upper_of n) upper_new ∙ length-set S (lower_of n) lower_new

  module _ (there : upper_of n < length S) where
    renewed-same : bevs_at (side_renewed false time side (lower_of n) S) n ≡ new_bevs
    renewed-same =
        let lower = set_lower-same S n lower_new (omega (arith, there)) in
        set_upper-same with_lower n upper_new (omega (arith, there, length-set S (lower_of n) lower_new))
        ∙ (λ i. let b : Bevs = lower i in record b { upper = upper_new })

    renewed-kinds : (m : ℕ) → (bevs_at (side_renewed false time side (lower_of n) S) m).upper.kind ≡ (bevs_at S m).upper.kind
    renewed-kinds =
        let kind_of : Bevs → Kind = λ z. z.upper.kind in
        everywhere (λ m. kind_of (bevs_at S m)) (λ m. kind_of (bevs_at (side_renewed false time side (lower_of n) S) m)) n
        (λ m d. ap kind_of (renewed-other m d)) (ap kind_of renewed-same)

-- A side as it opens

standing-begun : (time turn : ℕ) (o : Option LimitCfg) →
    option_map (λ (x : LimitValue). x.standing) (first_kept time turn o) ≡ option_map (first_limit time turn) o
standing-begun time turn None = refl
standing-begun time turn (Some cfg) = refl

gauge-begun : (time turn : ℕ) (o : Option LimitCfg) → gauge_by (first_kept time turn o) ≡ gauge_begun o time
gauge-begun time turn None = refl
gauge-begun time turn (Some cfg) = refl

module _ (time turn : ℕ) (side : NewSide) (kept : Option (Box LimitValue Global))
    (is : kept_value kept ≡ first_kept time turn side.limit) where
  side-opens : plain_side (opening_bev false time side) (new_state side.connected kept side.group) ≡ opening_side time turn side
  side-opens =
      let limit = ap (λ z. option_map (λ (y : LimitValue). y.standing) z) is ∙ standing-begun time turn side.limit in
      λ i. let x = opening_side time turn side in record x { limit = limit i }

  gauge-opens : gauge_of (new_state side.connected kept side.group) ≡ gauge_begun side.limit time
  gauge-opens = ap gauge_by is ∙ gauge-begun time turn side.limit

none_counted : (reader writer : FilterKind) → IsCounted no_flow (fresh_lane reader writer)
none_counted reader writer = record { used = omega arith; moved = omega arith; turned = omega arith; given = omega arith }

-- what is so at two numbers and at all others
by_place : (P : ℕ → Type 0) (a b : ℕ) → P a → P b → ((m : ℕ) → m ≢ a → m ≢ b → P m) → (m : ℕ) → P m
by_place P a b x y off m = go (m == a) refl
  where
    rest : m ≢ a → (t : Bool) → (m == b) ≡ t → P m
    rest d true e = subst P (sym (eqb-true m b e)) y
    rest d false e = off m d (eqb-false m b e)

    go : (t : Bool) → (m == a) ≡ t → P m
    go true e = subst P (sym (eqb-true m a e)) x
    go false e = rest (eqb-false m a e) (m == b) refl

-- The link

module _ (o : ℕ) (S : List Slot) (K : List SideState) (slots : length S ≡ 4 * o) (sides : length K ≡ 2 * o) (link : ℕ) (opened : link < o)
    (time turn : ℕ) (near far : NewSide) (near_limit far_limit : Option (Box LimitValue Global))
    (near_is : kept_value near_limit ≡ first_kept time turn near.limit) (far_is : kept_value far_limit
    ≡ first_kept time turn far.limit) where
  abbrev a : ℕ
  a = number (in_side link)

  abbrev b : ℕ
  b = number (out_side link)

  abbrev near_state : SideState
  near_state = new_state near.connected near_limit near.group

  abbrev far_state : SideState
  far_state = new_state far.connected far_limit far.group

  abbrev S1 : List Slot
  S1 = side_renewed false time near (lower_of a) S

  abbrev S2 : List Slot
  S2 = side_renewed false time far (lower_of b) S1

  abbrev K1 : List SideState
  K1 = slice_set K a near_state

  abbrev K2 : List SideState
  K2 = slice_set K1 b far_state

  abbrev near_bevs : Bevs
  near_bevs = new_bevs time near a S

  abbrev far_bevs : Bevs
  far_bevs = new_bevs time far b S1

  apart : a ≢ b
  apart h = absurd (omega (arith, h))

  near_there : upper_of a < length S
  near_there = omega (arith, slots, opened)

  far_there : upper_of b < length S1
  far_there = omega (arith, slots, opened, renewed-length time near a S)

  bevs_off : (m : ℕ) → m ≢ a → m ≢ b → bevs_at S2 m ≡ bevs_at S m
  bevs_off m x y = renewed-other time far b S1 m y ∙ renewed-other time near a S m x

  bevs_near : bevs_at S2 a ≡ near_bevs
  bevs_near = renewed-other time far b S1 a apart ∙ renewed-same time near a S near_there

  bevs_far : bevs_at S2 b ≡ far_bevs
  bevs_far = renewed-same time far b S1 far_there

  state_off : (m : ℕ) → m ≢ a → m ≢ b → state_at K2 m ≡ state_at K m
  state_off m x y = set_state-other K1 b far_state m y ∙ set_state-other K a near_state m x

  state_near : state_at K2 a ≡ near_state
  state_near = set_state-other K1 b far_state a apart ∙ set_state-same K a near_state (omega (arith, sides, opened))

  state_far : state_at K2 b ≡ far_state
  state_far = set_state-same K1 b far_state (omega (arith, sides, opened, length-set K a near_state))

  twin_near : twin a ≡ b
  twin_near = omega arith

  twin_far : twin b ≡ a
  twin_far = omega arith

  -- of the other links both sides are as they were
  twin_off : (m : ℕ) → m ≢ a → m ≢ b → bevs_at S2 (twin m) ≡ bevs_at S (twin m)
  twin_off m x y = bevs_off (twin m) (λ e. y (omega (arith, e))) (λ e. x (omega (arith, e)))

  other_near : bevs_at S2 (twin a) ≡ far_bevs
  other_near = ap (bevs_at S2) twin_near ∙ bevs_far

  other_far : bevs_at S2 (twin b) ≡ near_bevs
  other_far = ap (bevs_at S2) twin_far ∙ bevs_near

  flow_off : (m : ℕ) → m ≢ a → m ≢ b → flow_at S2 K2 m ≡ flow_at S K m
  flow_off m x y = λ i. flow_of (bevs_off m x y i) (twin_off m x y i) (state_off m x y i)

  flow_near : flow_at S2 K2 a ≡ no_flow
  flow_near = λ i. flow_of (bevs_near i) (other_near i) (state_near i)

  flow_far : flow_at S2 K2 b ≡ no_flow
  flow_far = λ i. flow_of (bevs_far i) (other_far i) (state_far i)

  lane_off : (m : ℕ) → m ≢ a → m ≢ b → lane_at S2 K2 m ≡ lane_at S K m
  lane_off m x y = λ i. lane_of (bevs_off m x y i) (twin_off m x y i) (state_off m x y i)

  lane_near : lane_at S2 K2 a ≡ fresh_lane near.read far.write
  lane_near = λ i. lane_of (bevs_near i) (other_near i) (state_near i)

  lane_far : lane_at S2 K2 b ≡ fresh_lane far.read near.write
  lane_far = λ i. lane_of (bevs_far i) (other_far i) (state_far i)

  plain_off : (m : ℕ) → m ≢ a → m ≢ b → plain_at S2 K2 m ≡ plain_at S K m
  plain_off m x y = λ i. plain_side (bevs_off m x y i).lower.bev (state_off m x y i)

  plain_near : plain_at S2 K2 a ≡ opening_side time turn near
  plain_near = (λ i. plain_side (bevs_near i).lower.bev (state_near i)) ∙ side-opens time turn near near_limit near_is

  plain_far : plain_at S2 K2 b ≡ opening_side time turn far
  plain_far = (λ i. plain_side (bevs_far i).lower.bev (state_far i)) ∙ side-opens time turn far far_limit far_is

  gauge_near : gauge_at K2 a ≡ gauge_begun near.limit time
  gauge_near = ap gauge_of state_near ∙ gauge-opens time turn near near_limit near_is

  gauge_far : gauge_at K2 b ≡ gauge_begun far.limit time
  gauge_far = ap gauge_of state_far ∙ gauge-opens time turn far far_limit far_is

  two-put : {A : Type 0} (f g : ℕ → A) (x y : A) → ((m : ℕ) → m ≢ a → m ≢ b → g m ≡ f m) → g a ≡ x → g b ≡ y →
      tabulate g (2 * o) ≡ slice_set (slice_set (tabulate f (2 * o)) a x) b y
  two-put f g x y off p q = tabulate-two f g (2 * o) a b apart off ∙ (λ i. slice_set (slice_set (tabulate f (2 * o)) a (p i)) b (q i))

  pub links_renewed : links_of o S2 K2 ≡ with_new_link link time turn near far (links_of o S K)
  links_renewed =
      let x = two-put (plain_at S K) (plain_at S2 K2) (opening_side time turn near) (opening_side time turn far)
      plain_off plain_near plain_far in
      let f = two-put (flow_at S K) (flow_at S2 K2) no_flow no_flow flow_off flow_near flow_far in
      let l = two-put (lane_at S K) (lane_at S2 K2) (fresh_lane near.read far.write)
      (fresh_lane far.read near.write) lane_off lane_near lane_far in
      let u = two-put (gauge_at K) (gauge_at K2) (gauge_begun near.limit time) (gauge_begun far.limit time)
      (λ m d e. ap gauge_of (state_off m d e)) gauge_near gauge_far in
      λ i. record { opened = o; sides = x i; flows = f i; lanes = l i; gauges = u i }

  pub lasting_renewed : Lasting S S2 K K2
  lasting_renewed = record {
    slots = renewed-length time far b S1 ∙ renewed-length time near a S;
    sides = length-set K1 b far_state ∙ length-set K a near_state;
    kinds = λ m. renewed-kinds time far b S1 far_there m ∙ renewed-kinds time near a S near_there m;
  }

  counted_as : (m : ℕ) (f : Flow) (l : Lane) → flow_at S2 K2 m ≡ f → lane_at S2 K2 m ≡ l → IsCounted f l →
      IsCounted (flow_at S2 K2 m) (lane_at S2 K2 m)
  counted_as m f l p q k = subst (λ (y : Lane). IsCounted (flow_at S2 K2 m) y) (sym q) (subst (λ (x : Flow). IsCounted x l) (sym p) k)

  pub counted_renewed : ((m : ℕ) → m < 2 * o → IsCounted (flow_at S K m) (lane_at S K m)) →
      (m : ℕ) → m < 2 * o → IsCounted (flow_at S2 K2 m) (lane_at S2 K2 m)
  counted_renewed all =
      by_place (λ m. m < 2 * o → IsCounted (flow_at S2 K2 m) (lane_at S2 K2 m)) a b
      (λ h. counted_as a no_flow (fresh_lane near.read far.write) flow_near lane_near (none_counted near.read far.write))
      (λ h. counted_as b no_flow (fresh_lane far.read near.write) flow_far lane_far (none_counted far.read near.write))
      (λ m x y h. counted_as m (flow_at S K m) (lane_at S K m) (flow_off m x y) (lane_off m x y) (all m h))

-- both sides' bufferevents are made new, one after the other
pub slots_renewed : (S T U : List Slot) (c d : Bool) (n m link time : ℕ) (near far : NewSide) → c ≡ false → d ≡ c →
    n ≡ lower_of (number (in_side link)) → m ≡ lower_of (number (out_side link)) →
    T ≡ side_renewed c time near n S → U ≡ side_renewed d time far m T →
    U ≡ side_renewed false time far (lower_of (number (out_side link)))
    (side_renewed false time near (lower_of (number (in_side link))) S)
slots_renewed S T U c d n m link time near far c_is d_is n_is m_is first second =
    second ∙ (λ i. side_renewed ((d_is ∙ c_is) i) time far (m_is i) ((first ∙ (λ j. side_renewed (c_is j) time near (n_is j) S)) i))

-- and so is what is kept beside them
pub states_renewed : (K : List SideState) (n m link : ℕ) (x y s t : SideState) → n ≡ number (in_side link) →
    m ≡ number (out_side link) → x ≡ s → y ≡ t →
    slice_set (slice_set K n x) m y ≡ slice_set (slice_set K (number (in_side link)) s) (number (out_side link)) t
states_renewed K n m link x y s t n_is m_is x_is y_is = λ i. slice_set (slice_set K (n_is i) (x_is i)) (m_is i) (y_is i)

-- What the code keeps is sound then.
pub sound_renewed : (r : Inside) (w : WorldValue) (k : Vec SideState) (link : ℕ) (opened : link < r.opened) (time turn : ℕ)
    (near far : NewSide) (near_limit far_limit : Option (Box LimitValue Global))
    (near_is : kept_value near_limit ≡ first_kept time turn near.limit) (far_is : kept_value far_limit ≡ first_kept time turn far.limit)
    (sound : AreSides r) →
    w.slots ≡ side_renewed false time far (lower_of (number (out_side link)))
    (side_renewed false time near (lower_of (number (in_side link))) r.world.slots) →
    w.chunked ≡ r.world.chunked →
    k.items ≡ slice_set (slice_set r.sides.items (number (in_side link)) (new_state near.connected near_limit near.group))
    (number (out_side link)) (new_state far.connected far_limit far.group) →
    AreSides (record r { world = w; sides = k; readable = 0 })
sound_renewed r w k link opened time turn near far near_limit far_limit near_is far_is sound a chunked b =
    let S : List Slot = r.world.slots in
    let K : List SideState = r.sides.items in
    let states : List SideState = slice_set (slice_set K (number (in_side link)) (new_state near.connected near_limit near.group))
    (number (out_side link)) (new_state far.connected far_limit far.group) in
    let last = lasting_renewed r.opened S K sound.slots sound.sides link opened time turn near far near_limit far_limit near_is far_is in
    let counted = counted_renewed r.opened S K sound.slots sound.sides link opened time turn near far near_limit far_limit near_is far_is
    sound.counted in
    are_sound r (record r { world = w; sides = k; readable = 0 }) sound refl refl chunked
    (record {
      slots = ap length a ∙ last.slots;
      sides = ap length b ∙ last.sides;
      kinds = λ m. ap (λ (z : List Slot). (bevs_at z m).upper.kind) a ∙ last.kinds m;
    })
    (λ m h.
    subst (λ (z : List SideState). IsCounted (flow_at w.slots z m) (lane_at w.slots z m)) (sym b)
    (subst (λ (z : List Slot). IsCounted (flow_at z states m) (lane_at z states m)) (sym a) (counted m h)))
