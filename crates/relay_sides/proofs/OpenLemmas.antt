-- What opening a link adds: four bufferevents, and two states beside them.
use Rattle.std.proofs.Common.{◌≡◌, ◌≢◌, ℕ, suc, ◌+◌, ◌-◌, ◌*◌, ◌<◌, Bool, true, false, ◌==◌, if◌then◌else◌, List, [], ◌∷◌, ◌++◌, length}
use Rattle.std.specs.Prelude.{Option, Some, None, option_map, Box}
use Rattle.std.specs.declared.alloc.Global.{Global}
use Rattle.std.proofs.Common.{slice_index_or, slice_set, vec_capacity, Result, Ok, Err, refl, sym, ◌∙◌, ap, subst, arith, eqb-true}
use Rattle.std.proofs.Common.{length-append}
use Rattle.std.specs.Global.{Vec}
use Rattle.std.specs.Result.{IfOk, OnOk, OnErr, is_ok}
use Rattle.std.proofs.lemmas.Bool.{eqb-false}
use Rattle.std.proofs.lemmas.List.{get_or-append-add, get_or_append_left, append_assoc}
use Rattle.std.proofs.Math.Seq.{get_or-append_seam, set-append_seam}
use Rattle.token_bucket.specs.declared.limit.Dir.TheVariants.{Read, Write}
use Rattle.ev_types.specs.declared.filter.FilterKind.TheVariants as kind
use Rattle.token_bucket.specs.declared.limit.LimitCfg.{LimitCfg}
use Rattle.bev_core.specs.BevValue.{BevValue}
use Rattle.bev_core.specs.Steps.{with_enabled, with_marks, with_timeouts}
use Rattle.bev_world.specs.WorldValue.{WorldValue, no_slot, made_slot, bev_at, with_slot, with_bev, with_new, with_taken, with_room}
use Rattle.bev_world.specs.declared.slot.Slot.{Slot}
use Rattle.bev_world.specs.declared.slot.Kind.TheVariants.{Socket, Filter}
use Rattle.relay_model.specs.Flow.{Flow, no_flow}
use Rattle.relay_model.specs.Plain.{PlainSide, first_limit}
use Rattle.relay_state.specs.Running.{gauge_begun}
use Rattle.side_limit.specs.LimitValue.{LimitValue}
use Rattle.relay_state.specs.State.{Lane}
use Rattle.relay_sides.specs.Bevs.{Bevs, bevs_at, lower_of, upper_of, twin}
use Rattle.relay_sides.specs.Table.{tabulate}
use Rattle.relay_sides.specs.Links.{opening_side, fresh_lane, with_link}
use Rattle.relay_sides.specs.KeptLimits.{kept_value, first_kept}
use Rattle.relay_sides.specs.Opening.{side_slots}
use Rattle.relay_sides.specs.SideView.{new_state, state_at, plain_side, plain_at, flow_of, flow_at, lane_of, lane_at, gauge_at, gauge_of}
use Rattle.relay_sides.specs.SideView.{gauge_by}
use Rattle.relay_sides.specs.SidesView.{links_of, IsCounted, CanRead, AreSides}
use Rattle.relay_sides.specs.declared.side.SideState.{SideState}
use Rattle.relay_sides.specs.declared.sides.Sides.TheInside.{Inside}
use Rattle.relay_sides.specs.declared.opening.NewSide.{NewSide}
use Rattle.relay_sides.proofs.TableLemmas.{tabulate-more}

-- what holds of a result that there is

pub when_ok : {T E : Type 0} (P : Type 0) (r : Result T E) (x : T) → r ≡ Ok x → OnOk r P → P
when_ok P r x e h = subst (λ z. OnOk z P) e h

pub known_ok : {T E : Type 0} (P : T → Type 0) (r : Result T E) (x : T) → r ≡ Ok x → IfOk r P → P x
known_ok P r x e h = subst (λ z. IfOk z P) e h

-- room that is made changes no slot, and not whether buffers may lie in several chunks
pub slots_reserved : {T E : Type 0} (more : ℕ) (w new : WorldValue) (r : Result T E) → OnOk r (new ≡ with_room more w) →
    OnErr r (new ≡ w) → new.slots ≡ w.slots
slots_reserved more w new (Ok x) a b = ap (λ (z : WorldValue). z.slots) a
slots_reserved more w new (Err d) a b = ap (λ (z : WorldValue). z.slots) b

pub chunked_reserved : {T E : Type 0} (more : ℕ) (w new : WorldValue) (r : Result T E) → OnOk r (new ≡ with_room more w) →
    OnErr r (new ≡ w) → new.chunked ≡ w.chunked
chunked_reserved more w new (Ok x) a b = ap (λ (z : WorldValue). z.chunked) a
chunked_reserved more w new (Err d) a b = ap (λ (z : WorldValue). z.chunked) b

-- The two bufferevents of a side

module _ (w0 : WorldValue) where
  abbrev place : ℕ
  place = length w0.slots

  -- one slot more
  abbrev one_more : Slot → WorldValue
  one_more s = record w0 { slots = w0.slots ++ s ∷ []; spare = w0.spare - 1 }

  one_changed : (s : Slot) (f : BevValue → BevValue) →
      with_bev (one_more s) place (f (bev_at (one_more s) place)) ≡ one_more (record s { bev = f s.bev })
  one_changed s f =
      let at = get_or-append_seam w0.slots s [] no_slot in
      (λ i. with_slot (one_more s) place (let x : Slot = at i in record x { bev = f x.bev }))
      ∙ ap (λ (xs : List Slot). record w0 { slots = xs; spare = w0.spare - 1 })
      (set-append_seam w0.slots s [] (record s { bev = f s.bev }))

  next : (w w' : WorldValue) (n : ℕ) (s : Slot) (f : BevValue → BevValue) → n ≡ place → w ≡ one_more s →
      w' ≡ with_bev w n (f (bev_at w n)) → w' ≡ one_more (record s { bev = f s.bev })
  next w w' n s f h e g = g ∙ (λ i. with_bev (e i) (h i) (f (bev_at (e i) (h i)))) ∙ one_changed s f

  taken_behind : (s x : Slot) →
      (with_taken (with_new (x ∷ []) (one_more s)) place).slots ≡ w0.slots ++ (record s { taken = true }) ∷ x ∷ []
  taken_behind s x =
      let all = append_assoc w0.slots (s ∷ []) (x ∷ []) in
      let at = get_or-append_seam w0.slots s (x ∷ []) no_slot in
      ap (λ (xs : List Slot). slice_set xs place (let y : Slot = slice_index_or xs place no_slot in record y { taken = true })) all
      ∙ (λ i. slice_set (w0.slots ++ s ∷ x ∷ []) place (let y : Slot = at i in record y { taken = true }))
      ∙ set-append_seam w0.slots s (x ∷ []) (record s { taken = true })

  pub bevs_added : (w1 w2 w3 w4 w5 w6 : WorldValue) (time : ℕ) (side : NewSide) (n : ℕ) → n ≡ length w0.slots →
      w1 ≡ with_new (made_slot w0.chunked Socket kind.None kind.None ∷ []) w0 →
      w2 ≡ with_bev w1 n (with_enabled (bev_at w1 n) Read true) →
      w3 ≡ with_bev w2 n (with_marks (bev_at w2 n) Read side.marks.read_low side.marks.read_high) →
      w4 ≡ with_bev w3 n (with_marks (bev_at w3 n) Write side.marks.write_low side.marks.write_high) →
      w5 ≡ with_bev w4 n (with_timeouts (bev_at w4 n) side.timeouts.read_ms side.timeouts.write_ms time) →
      w6 ≡ with_taken (with_new (made_slot w5.chunked (Filter n) side.read side.write ∷ []) w5) n →
      w6.slots ≡ w0.slots ++ side_slots w0.chunked time side (length w0.slots)
  bevs_added w1 w2 w3 w4 w5 w6 time side n h e1 e2 e3 e4 e5 e6 =
      let s1 : Slot = made_slot w0.chunked Socket kind.None kind.None in
      let f2 : BevValue → BevValue = λ b. with_enabled b Read true in
      let f3 : BevValue → BevValue = λ b. with_marks b Read side.marks.read_low side.marks.read_high in
      let f4 : BevValue → BevValue = λ b. with_marks b Write side.marks.write_low side.marks.write_high in
      let f5 : BevValue → BevValue = λ b. with_timeouts b side.timeouts.read_ms side.timeouts.write_ms time in
      let s2 : Slot = record s1 { bev = f2 s1.bev } in
      let s3 : Slot = record s2 { bev = f3 s2.bev } in
      let s4 : Slot = record s3 { bev = f4 s3.bev } in
      let s5 : Slot = record s4 { bev = f5 s4.bev } in
      let g2 = next w1 w2 n s1 f2 h e1 e2 in
      let g3 = next w2 w3 n s2 f3 h g2 e3 in
      let g4 = next w3 w4 n s3 f4 h g3 e4 in
      let g5 = next w4 w5 n s4 f5 h g4 e5 in
      ap (λ (w : WorldValue). w.slots) e6
      ∙ (λ i. (with_taken (with_new (made_slot (g5 i).chunked (Filter (h i)) side.read side.write ∷ []) (g5 i)) (h i)).slots)
      ∙ taken_behind s5 (made_slot w0.chunked (Filter place) side.read side.write)

  -- and whether buffers may lie in several chunks stays
  pub chunked_kept : (w1 w2 w3 w4 w5 w6 : WorldValue) (s x : Slot) (n : ℕ) (b2 b3 b4 b5 : BevValue) → w1 ≡ with_new (s ∷ []) w0 →
      w2 ≡ with_bev w1 n b2 → w3 ≡ with_bev w2 n b3 → w4 ≡ with_bev w3 n b4 → w5 ≡ with_bev w4 n b5 →
      w6 ≡ with_taken (with_new (x ∷ []) w5) n → w6.chunked ≡ w0.chunked
  chunked_kept w1 w2 w3 w4 w5 w6 s x n b2 b3 b4 b5 e1 e2 e3 e4 e5 e6 =
      let f : WorldValue → Bool = λ w. w.chunked in
      ap f e6 ∙ ap f e5 ∙ ap f e4 ∙ ap f e3 ∙ ap f e2 ∙ ap f e1

-- A limit as it opens, and its buckets

standing-begun : (time turn : ℕ) (o : Option LimitCfg) →
    option_map (λ (x : LimitValue). x.standing) (first_kept time turn o) ≡ option_map (first_limit time turn) o
standing-begun time turn None = refl
standing-begun time turn (Some cfg) = refl

gauge-begun : (time turn : ℕ) (o : Option LimitCfg) → gauge_by (first_kept time turn o) ≡ gauge_begun o time
gauge-begun time turn None = refl
gauge-begun time turn (Some cfg) = refl

-- The next link

-- what is kept of its sides
abbrev pub more_sides : NewSide → NewSide → Option (Box LimitValue Global) → Option (Box LimitValue Global) → List SideState
more_sides near far a b = new_state near.connected a near.group ∷ new_state far.connected b far.group ∷ []

module _ (o : ℕ) (S : List Slot) (K : List SideState) (slots : length S ≡ 4 * o) (sides : length K ≡ 2 * o)
    (time turn : ℕ) (near far : NewSide) (near_limit far_limit : Option (Box LimitValue Global))
    (near_is : kept_value near_limit ≡ first_kept time turn near.limit) (far_is : kept_value far_limit
    ≡ first_kept time turn far.limit) where
  -- its bufferevents
  abbrev pub more_slots : List Slot
  more_slots = side_slots false time near (4 * o) ++ side_slots false time far (4 * o + 2)

  abbrev more : List SideState
  more = more_sides near far near_limit far_limit

  abbrev S3 : List Slot
  S3 = S ++ more_slots

  abbrev K3 : List SideState
  K3 = K ++ more

  abbrev near_bevs : Bevs
  near_bevs = record { lower = slice_index_or more_slots 0 no_slot; upper = slice_index_or more_slots 1 no_slot }

  abbrev far_bevs : Bevs
  far_bevs = record { lower = slice_index_or more_slots 2 no_slot; upper = slice_index_or more_slots 3 no_slot }

  bevs_old : (m : ℕ) → m < 2 * o → bevs_at S3 m ≡ bevs_at S m
  bevs_old m h =
      let a = get_or_append_left S more_slots no_slot (lower_of m) (omega (arith, h, slots)) in
      let b = get_or_append_left S more_slots no_slot (upper_of m) (omega (arith, h, slots)) in
      λ i. record { lower = a i; upper = b i }

  state_old : (m : ℕ) → m < 2 * o → state_at K3 m ≡ state_at K m
  state_old m h = get_or_append_left K more (new_state true None None) m (omega (arith, h, sides))

  slot_new : (j k : ℕ) → k ≡ length S + j → slice_index_or S3 k no_slot ≡ slice_index_or more_slots j no_slot
  slot_new j k e = ap (λ n. slice_index_or S3 n no_slot) e ∙ get_or-append-add S more_slots j no_slot

  state_new : (j k : ℕ) → k ≡ length K + j → state_at K3 k ≡ state_at more j
  state_new j k e = ap (state_at K3) e ∙ get_or-append-add K more j (new_state true None None)

  bevs_near : bevs_at S3 (2 * o) ≡ near_bevs
  bevs_near =
      let a = slot_new 0 (lower_of (2 * o)) (omega (arith, slots)) in
      let b = slot_new 1 (upper_of (2 * o)) (omega (arith, slots)) in
      λ i. record { lower = a i; upper = b i }

  bevs_far : bevs_at S3 (2 * o + 1) ≡ far_bevs
  bevs_far =
      let a = slot_new 2 (lower_of (2 * o + 1)) (omega (arith, slots)) in
      let b = slot_new 3 (upper_of (2 * o + 1)) (omega (arith, slots)) in
      λ i. record { lower = a i; upper = b i }

  state_near : state_at K3 (2 * o) ≡ new_state near.connected near_limit near.group
  state_near = state_new 0 (2 * o) (omega (arith, sides))

  state_far : state_at K3 (2 * o + 1) ≡ new_state far.connected far_limit far.group
  state_far = state_new 1 (2 * o + 1) (omega (arith, sides))

  twin_near : twin (2 * o) ≡ 2 * o + 1
  twin_near = omega arith

  twin_far : twin (2 * o + 1) ≡ 2 * o
  twin_far = omega arith

  twin_old : (m : ℕ) → m < 2 * o → twin m < 2 * o
  twin_old m h = omega (arith, h)

  flow_old : (m : ℕ) → m < 2 * o → flow_at S3 K3 m ≡ flow_at S K m
  flow_old m h = λ i. flow_of (bevs_old m h i) (bevs_old (twin m) (twin_old m h) i) (state_old m h i)

  lane_old : (m : ℕ) → m < 2 * o → lane_at S3 K3 m ≡ lane_at S K m
  lane_old m h = λ i. lane_of (bevs_old m h i) (bevs_old (twin m) (twin_old m h) i) (state_old m h i)

  other_near : bevs_at S3 (twin (2 * o)) ≡ far_bevs
  other_near = ap (bevs_at S3) twin_near ∙ bevs_far

  other_far : bevs_at S3 (twin (2 * o + 1)) ≡ near_bevs
  other_far = ap (bevs_at S3) twin_far ∙ bevs_near

  flow_near : flow_at S3 K3 (2 * o) ≡ no_flow
  flow_near = λ i. flow_of (bevs_near i) (other_near i) (state_near i)

  flow_far : flow_at S3 K3 (2 * o + 1) ≡ no_flow
  flow_far = λ i. flow_of (bevs_far i) (other_far i) (state_far i)

  lane_near : lane_at S3 K3 (2 * o) ≡ fresh_lane near.read far.write
  lane_near = λ i. lane_of (bevs_near i) (other_near i) (state_near i)

  lane_far : lane_at S3 K3 (2 * o + 1) ≡ fresh_lane far.read near.write
  lane_far = λ i. lane_of (bevs_far i) (other_far i) (state_far i)

  -- a side with the limit that it opens with
  with_limit : (n : NewSide) (b : BevValue) (kept : Option (Box LimitValue Global)) → kept_value kept ≡ first_kept time turn n.limit →
      plain_side b (new_state n.connected kept n.group)
      ≡ (let x : PlainSide = plain_side b (new_state n.connected kept n.group) in record x {
        limit = option_map
            (first_limit time turn) n.limit;
      })
  with_limit n b kept is =
      let all = ap (λ z. option_map (λ (y : LimitValue). y.standing) z) is ∙ standing-begun time turn n.limit in
      λ i. (let x : PlainSide = plain_side b (new_state n.connected kept n.group) in record x { limit = all i })

  side_near : plain_at S3 K3 (2 * o) ≡ opening_side time turn near
  side_near = (λ i. plain_side (bevs_near i).lower.bev (state_near i)) ∙ with_limit near near_bevs.lower.bev near_limit near_is

  side_far : plain_at S3 K3 (2 * o + 1) ≡ opening_side time turn far
  side_far = (λ i. plain_side (bevs_far i).lower.bev (state_far i)) ∙ with_limit far far_bevs.lower.bev far_limit far_is

  gauge_near : gauge_at K3 (2 * o) ≡ gauge_begun near.limit time
  gauge_near = ap gauge_of state_near ∙ ap gauge_by near_is ∙ gauge-begun time turn near.limit

  gauge_far : gauge_at K3 (2 * o + 1) ≡ gauge_begun far.limit time
  gauge_far = ap gauge_of state_far ∙ ap gauge_by far_is ∙ gauge-begun time turn far.limit

  two_more : 2 * (o + 1) ≡ suc (suc (2 * o))
  two_more = omega arith

  last_one : suc (2 * o) ≡ 2 * o + 1
  last_one = omega arith

  two-behind : {A : Type 0} (f g : ℕ → A) (a b : A) → ((m : ℕ) → m < 2 * o → g m ≡ f m) → g (2 * o) ≡ a → g (2 * o + 1) ≡ b →
      tabulate g (2 * (o + 1)) ≡ tabulate f (2 * o) ++ a ∷ b ∷ []
  two-behind f g a b old p q =
      ap (tabulate g) two_more ∙ tabulate-more f g (2 * o) old
      ∙ (λ i. tabulate f (2 * o) ++ p i ∷ (ap g last_one ∙ q) i ∷ [])

  pub links_more : links_of (o + 1) S3 K3 ≡ with_link time turn near far (links_of o S K)
  links_more =
      let x = two-behind (plain_at S K) (plain_at S3 K3) (opening_side time turn near) (opening_side time turn far)
      (λ m h. λ i. plain_side (bevs_old m h i).lower.bev (state_old m h i)) side_near side_far in
      let f = two-behind (flow_at S K) (flow_at S3 K3) no_flow no_flow flow_old flow_near flow_far in
      let l = two-behind (lane_at S K) (lane_at S3 K3) (fresh_lane near.read far.write)
      (fresh_lane far.read near.write) lane_old lane_near lane_far in
      let u = two-behind (gauge_at K) (gauge_at K3) (gauge_begun near.limit time) (gauge_begun far.limit time) (λ m h. ap gauge_of
      (state_old m h))
      gauge_near gauge_far in
      λ i. record { opened = o + 1; sides = x i; flows = f i; lanes = l i; gauges = u i }

  -- which of three a number is
  by_place : (P : ℕ → Type 0) → ((m : ℕ) → m < 2 * o → P m) → P (2 * o) → P (2 * o + 1) → (m : ℕ) → m < 2 * (o + 1) → P m
  by_place P old a b m h = go (m == 2 * o) refl
    where
      rest : m ≢ 2 * o → (t : Bool) → (m == 2 * o + 1) ≡ t → P m
      rest d true e = subst P (sym (eqb-true m (2 * o + 1) e)) b
      rest d false e = old m (omega (arith, h, d, eqb-false m (2 * o + 1) e))

      go : (t : Bool) → (m == 2 * o) ≡ t → P m
      go true e = subst P (sym (eqb-true m (2 * o) e)) a
      go false e = rest (eqb-false m (2 * o) e) (m == 2 * o + 1) refl

  pub filters_more : ((m : ℕ) → m < 2 * o → (bevs_at S m).upper.kind ≡ Filter (lower_of m)) →
      (m : ℕ) → m < 2 * (o + 1) → (bevs_at S3 m).upper.kind ≡ Filter (lower_of m)
  filters_more all =
      let a : 4 * o ≡ lower_of (2 * o) = omega arith in
      let b : 4 * o + 2 ≡ lower_of (2 * o + 1) = omega arith in
      by_place (λ m. (bevs_at S3 m).upper.kind ≡ Filter (lower_of m))
      (λ m h. ap (λ (x : Bevs). x.upper.kind) (bevs_old m h) ∙ all m h)
      (ap (λ (x : Bevs). x.upper.kind) bevs_near ∙ ap Filter a) (ap (λ (x : Bevs). x.upper.kind) bevs_far ∙ ap Filter b)

  none_counted : (l : Lane) → length l.buffers.raw_input ≡ 0 → length l.buffers.input ≡ 0 → length l.buffers.output ≡ 0 →
      length l.buffers.raw_output ≡ 0 → IsCounted no_flow l
  none_counted l a b d e = record {
    used = omega (arith, a);
    moved = omega (arith, b);
    turned = omega (arith, d);
    given = omega (arith, e);
  }

  counted_as : (m : ℕ) (f : Flow) (l : Lane) → flow_at S3 K3 m ≡ f → lane_at S3 K3 m ≡ l → IsCounted f l →
      IsCounted (flow_at S3 K3 m) (lane_at S3 K3 m)
  counted_as m f l p q k = subst (λ (y : Lane). IsCounted (flow_at S3 K3 m) y) (sym q) (subst (λ (x : Flow). IsCounted x l) (sym p) k)

  pub counted_more : ((m : ℕ) → m < 2 * o → IsCounted (flow_at S K m) (lane_at S K m)) →
      (m : ℕ) → m < 2 * (o + 1) → IsCounted (flow_at S3 K3 m) (lane_at S3 K3 m)
  counted_more all =
      by_place (λ m. IsCounted (flow_at S3 K3 m) (lane_at S3 K3 m))
      (λ m h. counted_as m (flow_at S K m) (lane_at S K m) (flow_old m h) (lane_old m h) (all m h))
      (counted_as (2 * o) no_flow (fresh_lane near.read far.write) flow_near lane_near
      (none_counted (fresh_lane near.read far.write) refl refl refl refl))
      (counted_as (2 * o + 1) no_flow (fresh_lane far.read near.write) flow_far lane_far
      (none_counted (fresh_lane far.read near.write) refl refl refl refl))

  -- room for a read of a side that there is stays
  pub read_more : (ready beside spare count : ℕ) → (ready < 2 * o) × CanRead (bevs_at S ready) (state_at K ready) beside spare count →
      (ready < 2 * (o + 1)) × CanRead (bevs_at S3 ready) (state_at K3 ready) beside spare count
  read_more ready beside spare count can =
      let h : ready < 2 * o = can.0 in (
        omega (arith, h),
        subst (λ (x : SideState). CanRead (bevs_at S3 ready) x beside spare count) (sym (state_old ready h))
            (subst (λ (x : Bevs). CanRead x (state_at K ready) beside spare count) (sym (bevs_old ready h)) can.1),
      )

-- What the code keeps stays sound where its slots, its states and the rest are as they were.
pub sound_kept : (r : Inside) (w : WorldValue) (k : Vec SideState) → w.slots ≡ r.world.slots →
    w.chunked ≡ r.world.chunked → k.items ≡ r.sides.items → AreSides r → AreSides (record r { world = w; sides = k })
sound_kept r w k a chunked b sound = record {
  slots = ap length a ∙ sound.slots;
  sides = ap length b ∙ sound.sides;
  filters = λ n h. ap (λ (S : List Slot). (bevs_at S n).upper.kind) a ∙ sound.filters n h;
  counted = λ n h.
      subst (λ (K : List SideState). IsCounted (flow_at w.slots K n) (lane_at w.slots K n)) (sym b)
      (subst (λ (S : List Slot). IsCounted (flow_at S r.sides.items n) (lane_at S r.sides.items n)) (sym a) (sound.counted n h));
  one_piece = chunked ∙ sound.one_piece;
  read_room = λ h. (
    (sound.read_room h).0,
    subst (λ (K : List SideState). CanRead (bevs_at w.slots r.ready) (state_at K r.ready) (vec_capacity r.beside) r.spare r.readable)
        (sym b)
        (subst (λ (S : List Slot). CanRead (bevs_at S r.ready) (state_at r.sides.items r.ready) (vec_capacity r.beside) r.spare r.readable)
        (sym a) (sound.read_room h).1),
  );
}

-- and so it does where a link was opened
pub sound_more : (r : Inside) (w : WorldValue) (k : Vec SideState) (time turn : ℕ) (near far : NewSide)
    (near_limit far_limit : Option (Box LimitValue Global))
    (near_is : kept_value near_limit ≡ first_kept time turn near.limit) (far_is : kept_value far_limit ≡ first_kept time turn far.limit)
    (sound : AreSides r) →
    w.slots ≡ r.world.slots ++ (side_slots false time near (4 * r.opened) ++ side_slots false time far (4 * r.opened + 2)) →
    w.chunked ≡ r.world.chunked →
    k.items ≡ r.sides.items ++ more_sides near far near_limit far_limit →
    AreSides (record r { opened = r.opened + 1; world = w; sides = k })
sound_more r w k time turn near far near_limit far_limit near_is far_is sound a chunked b =
    let S : List Slot = r.world.slots in
    let K : List SideState = r.sides.items in
    let more : List Slot = side_slots false time near (4 * r.opened) ++ side_slots false time far (4 * r.opened + 2) in
    let states : List SideState = more_sides near far near_limit far_limit in
    record {
      slots = ap length a ∙ length-append S more ∙ (let h : length S + 4 ≡ 4 * (r.opened + 1) = omega (arith, sound.slots) in h);
      sides = ap length b ∙ length-append K states ∙ (let h : length K + 2 ≡ 2 * (r.opened + 1) = omega (arith, sound.sides) in h);
      filters = λ n h.
          ap (λ (S : List Slot). (bevs_at S n).upper.kind) a
          ∙ filters_more r.opened S K sound.slots sound.sides time turn near far near_limit far_limit near_is far_is sound.filters n h;
      counted = λ n h.
          subst (λ (K : List SideState). IsCounted (flow_at w.slots K n) (lane_at w.slots K n)) (sym b)
          (subst (λ (S : List Slot). IsCounted (flow_at S (K ++ states) n) (lane_at S (K ++ states) n)) (sym a)
          (counted_more r.opened S K sound.slots sound.sides time turn near far near_limit far_limit near_is far_is sound.counted n h));
      one_piece = chunked ∙ sound.one_piece;
      read_room = λ h.
          let can = read_more r.opened S K sound.slots sound.sides time turn near far near_limit far_limit near_is far_is r.ready
          (vec_capacity r.beside) r.spare r.readable
          (sound.read_room h) in (
            can.0,
            subst (λ (K : List SideState). CanRead (bevs_at w.slots r.ready) (state_at K r.ready)
                (vec_capacity r.beside) r.spare r.readable)
                (sym b)
                (subst (λ (S : List Slot). CanRead (bevs_at S r.ready) (state_at (K ++ states) r.ready)
                (vec_capacity r.beside) r.spare r.readable)
                (sym a) can.1),
          );
    }

-- the two sides' bufferevents together
pub slots_joined : (S S1 S2 : List Slot) (c d : Bool) (o time : ℕ) (near far : NewSide) → length S ≡ 4 * o → c ≡ false → d ≡ c →
    S1 ≡ S ++ side_slots c time near (length S) → S2 ≡ S1 ++ side_slots d time far (length S1) →
    S2 ≡ S ++ (side_slots false time near (4 * o) ++ side_slots false time far (4 * o + 2))
slots_joined S S1 S2 c d o time near far h c_is d_is a b =
    let n : length S1 ≡ 4 * o + 2 = ap length a ∙ length-append S (side_slots c time near (length S)) ∙ ap (λ k. k + 2) h in
    let first : S1 ≡ S ++ side_slots false time near (4 * o) = a ∙ (λ i. S ++ side_slots (c_is i) time near (h i)) in
    b ∙ (λ i. first i ++ side_slots ((d_is ∙ c_is) i) time far (n i))
    ∙ append_assoc S (side_slots false time near (4 * o)) (side_slots false time far (4 * o + 2))

-- what was pushed stands behind the others
pub pushed : {T E : Type 0} (r : Result T E) (x : T) (K K1 : List SideState) (s : SideState) → r ≡ Ok x →
    K1 ≡ (if is_ok r then K ++ s ∷ [] else K) → K1 ≡ K ++ s ∷ []
pushed r x K K1 s e h = h ∙ ap (λ z. if is_ok z then K ++ s ∷ [] else K) e

-- what is kept of the two sides together
pub states_joined : (K K1 K2 : List SideState) (a b x y : SideState) → a ≡ x → b ≡ y → K1 ≡ K ++ a ∷ [] → K2 ≡ K1 ++ b ∷ [] →
    K2 ≡ K ++ x ∷ y ∷ []
states_joined K K1 K2 a b x y p q h k =
    k ∙ (λ i. h i ++ b ∷ []) ∙ append_assoc K (a ∷ []) (b ∷ []) ∙ (λ i. K ++ p i ∷ q i ∷ [])
