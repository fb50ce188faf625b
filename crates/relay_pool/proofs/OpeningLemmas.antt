-- A link more, in a bay of its own, and one that leaves its bay.
use Rattle.std.proofs.Common.{◌≡◌, ◌≢◌, ℕ, suc, ◌+◌, ◌*◌, ◌/◌, ◌%◌, ◌^◌, ◌<◌, ◌≤◌, Bool, true, false, ◌==◌, List, [], ◌∷◌, ◌++◌}
use Rattle.std.proofs.Common.{length, map, slice_index_or, slice_set, refl, sym, ◌∙◌, ap, arith, eqb-true, subst, nat_lt, length-append}
use Rattle.std.specs.Global.{Vec}
use Rattle.std.specs.Prelude.{Result, Ok}
use Rattle.std.specs.Result.{is_ok}
use Rattle.std.specs.Vec.{with_item}
use Rattle.std.specs.Prelude.{Option, Some, None, slice_get, vec_len, vec_capacity, ◌&&◌, if◌then◌else◌}
use Rattle.std.proofs.lemmas.Bool.{eqb-false, ltb-true, ltb-false}
use Rattle.std.proofs.lemmas.List.{get_or_past, get_or-set_same, get_or-set_other, get_or-append-add, get_or_append_left, length-set}
use Rattle.std.proofs.lemmas.List.{get_or-map, length-map, map-set, map_push}
use Rattle.std.proofs.lemmas.Option.{slice_get_within}
use Rattle.std.proofs.Math.Seq.{get_or-append_seam}
use Rattle.ev_types.specs.declared.side.Side.{Side}
use Rattle.ev_types.specs.declared.side.Side.TheVariants.{In, Out}
use Rattle.ev_types.specs.declared.side.SideId.{SideId}
use Rattle.ev_types.specs.Sides.{number}
use Rattle.relay_model.specs.Flow.{no_flow}
use Rattle.relay_model.specs.Plain.{PlainSide, no_side}
use Rattle.relay_state.specs.Closing.{in_side, out_side}
use Rattle.relay_state.specs.Running.{Gauge, no_gauge, gauge_begun}
use Rattle.relay_state.specs.State.{Lane, no_lane}
use Rattle.relay_sides.specs.Links.{Links, side_at, flow_at, lane_at, gauge_at, put_side, put_flow, put_lane, put_gauge}
use Rattle.relay_sides.specs.Links.{opening_side, fresh_lane, with_link, with_new_link}
use Rattle.relay_sides.specs.Pairs.{HasPairs}
use Rattle.relay_sides.specs.SidesValue.{SidesValue}
use Rattle.relay_sides.specs.Table.{tabulate}
use Rattle.relay_sides.specs.declared.opening.NewSide.{NewSide}
use Rattle.relay_sides.proofs.BevsLemmas.{number-lt}
use Rattle.relay_sides.proofs.TableLemmas.{tabulate-more}
use Rattle.relay_pool.specs.Over.{link_alone}
use Rattle.relay_pool.specs.PoolView.{part_at, links_seen, bays_of, room_for, links_spare, AreGivenBack, ArePooled}
use Rattle.relay_pool.specs.Stays.{links_with, link_in, stay_at, is_in_bay, IsBay, IsRemnant, IsStay}
use Rattle.relay_pool.specs.declared.pool.LinkPool.TheInside.{Inside}
use Rattle.relay_pool.specs.declared.stay.Over.{Over}
use Rattle.relay_pool.specs.declared.stay.Stay.{Stay}
use Rattle.relay_pool.specs.declared.stay.Stay.TheVariants as stay
use Rattle.relay_pool.proofs.TouchLemmas.{Touches, AlikeBeside, touches_side, touches_flow, touches_lane, touches_gauge, touches_then}
use Rattle.relay_pool.proofs.TouchLemmas.{touches_none}
use Rattle.relay_pool.proofs.LiftLemmas.{Image, side_of, same_links}
use Rattle.relay_pool.proofs.OwnerLemmas.{unowned, other_set, back_room, back_left}
use Rattle.relay_pool.proofs.BayLemmas.{part_away, image_of, image_bay, touches_set, one_owner}

-- what is alike of two lists of links but at a bay
pub record Alike (bay : ℕ) (old new : Links) : Type 0 where
  pub sides : AlikeBeside no_side bay old.sides new.sides
  pub flows : AlikeBeside no_flow bay old.flows new.flows
  pub lanes : AlikeBeside no_lane bay old.lanes new.lanes
  pub gauges : AlikeBeside no_gauge bay old.gauges new.gauges

-- these are a new link's sides and directions
pub record IsFresh (time turn : ℕ) (near far : NewSide) (k : Links) (bay : ℕ) : Type 0 where
  pub near_side : side_at k (in_side bay) ≡ opening_side time turn near
  pub far_side : side_at k (out_side bay) ≡ opening_side time turn far
  pub near_flow : flow_at k (in_side bay) ≡ no_flow
  pub far_flow : flow_at k (out_side bay) ≡ no_flow
  pub near_lane : lane_at k (in_side bay) ≡ fresh_lane near.read far.write
  pub far_lane : lane_at k (out_side bay) ≡ fresh_lane far.read near.write
  pub near_gauge : gauge_at k (in_side bay) ≡ gauge_begun near.limit time
  pub far_gauge : gauge_at k (out_side bay) ≡ gauge_begun far.limit time

-- A link more

module _ (k k' : Links) (stays : List Stay) (bay : ℕ)
    (away : (n : ℕ) → n < length stays → IsBay (stay_at stays n) → link_in (stay_at stays n) ≢ bay) where
  abbrev more : List Stay
  more = stays ++ stay.Bay bay ∷ []

  longer : length (stays ++ stay.Bay bay ∷ []) ≡ length stays + 1
  longer = length-append stays (stay.Bay bay ∷ [])

  module _ {A : Type 0} (get : Links → List A) (none x y : A) (alike : AlikeBeside none bay (get k) (get k'))
      (first : slice_index_or (get k') (number (in_side bay)) none ≡ x)
      (second : slice_index_or (get k') (number (out_side bay)) none ≡ y) where
    abbrev new : ℕ → A
    new = part_at get none k' more

    abbrev old : ℕ → A
    old = part_at get none k stays

    before : (n : ℕ) → n < 2 * length stays → new n ≡ old n
    before n w =
        let b : n / 2 < length stays = omega (arith, w) in
        let at : stay_at more (n / 2) ≡ stay_at stays (n / 2) = get_or_append_left stays (stay.Bay bay ∷ []) (stay.Bay 0) (n / 2) b in
        (λ i. slice_index_or (get (links_with k' (at i))) (2 * link_in (at i) + n % 2) none)
        ∙ part_away get none k k' stays bay alike n (away (n / 2) b)

    last : stay_at more (length stays) ≡ stay.Bay bay
    last = get_or-append_seam stays (stay.Bay bay) [] (stay.Bay 0)

    at_last : (n h : ℕ) → n / 2 ≡ length stays → n % 2 ≡ h → new n ≡ slice_index_or (get k') (2 * bay + h) none
    at_last n h p q =
        (λ i. let z = stay_at more (p i) in slice_index_or (get (links_with k' z)) (2 * link_in z + q i) none)
        ∙ (λ i. slice_index_or (get (links_with k' (last i))) (2 * link_in (last i) + h) none)

    pub row_more : tabulate (part_at get none k' (stays ++ stay.Bay bay ∷ [])) (2 * length (stays ++ stay.Bay bay ∷ []))
        ≡ tabulate (part_at get none k stays) (2 * length stays) ++ x ∷ y ∷ []
    row_more =
        let m = 2 * length stays in
        let count : 2 * length more ≡ suc (suc m) = omega (arith, longer) in
        let a : new m ≡ x = at_last m 0 (omega arith) (omega arith) ∙ first in
        let b : new (suc m) ≡ y = at_last (suc m) 1 (omega arith) (omega arith) ∙ second in
        ap (tabulate new) count ∙ tabulate-more old new m before ∙ (λ i. tabulate old m ++ a i ∷ b i ∷ [])

  pub links_more : (time turn : ℕ) (near far : NewSide) → Alike bay k k' → IsFresh time turn near far k' bay →
      links_seen (stays ++ stay.Bay bay ∷ []) k' ≡ with_link time turn near far (links_seen stays k)
  links_more time turn near far alike fresh =
      let sides = row_more (λ (z : Links). z.sides) no_side (opening_side time turn near) (opening_side time turn far) alike.sides
      fresh.near_side fresh.far_side in
      let flows = row_more (λ (z : Links). z.flows) no_flow no_flow no_flow alike.flows fresh.near_flow fresh.far_flow in
      let lanes = row_more (λ (z : Links). z.lanes) no_lane (fresh_lane near.read far.write) (fresh_lane far.read near.write) alike.lanes
      fresh.near_lane fresh.far_lane in
      let gauges = row_more (λ (z : Links). z.gauges) no_gauge (gauge_begun near.limit time) (gauge_begun far.limit time) alike.gauges
      fresh.near_gauge fresh.far_gauge in
      λ i. record { opened = longer i; sides = sides i; flows = flows i; lanes = lanes i; gauges = gauges i }

-- in a bay that was given back

module _ (bay time turn : ℕ) (near far : NewSide) (k : Links) where
  abbrev a : SideId
  a = in_side bay

  abbrev b : SideId
  b = out_side bay

  abbrev k1 : Links
  k1 = put_side a (opening_side time turn near) k

  abbrev k2 : Links
  k2 = put_side b (opening_side time turn far) k1

  abbrev k3 : Links
  k3 = put_flow a no_flow k2

  abbrev k4 : Links
  k4 = put_flow b no_flow k3

  abbrev k5 : Links
  k5 = put_lane a (fresh_lane near.read far.write) k4

  abbrev k6 : Links
  k6 = put_lane b (fresh_lane far.read near.write) k5

  abbrev k7 : Links
  k7 = put_gauge a (gauge_begun near.limit time) k6

  abbrev k8 : Links
  k8 = put_gauge b (gauge_begun far.limit time) k7

  pub touches_new : Touches bay k (with_new_link bay time turn near far k)
  touches_new =
      let t2 = touches_then bay k k1 k2 (touches_side a k (opening_side time turn near)) (touches_side b k1 (opening_side time turn far)) in
      let t3 = touches_then bay k k2 k3 t2 (touches_flow a k2 no_flow) in
      let t4 = touches_then bay k k3 k4 t3 (touches_flow b k3 no_flow) in
      let t5 = touches_then bay k k4 k5 t4 (touches_lane a k4 (fresh_lane near.read far.write)) in
      let t6 = touches_then bay k k5 k6 t5 (touches_lane b k5 (fresh_lane far.read near.write)) in
      let t7 = touches_then bay k k6 k7 t6 (touches_gauge a k6 (gauge_begun near.limit time)) in
      touches_then bay k k7 k8 t7 (touches_gauge b k7 (gauge_begun far.limit time))

  module _ (pairs : HasPairs k) (there : bay < k.opened) where
    in-below : (n : ℕ) → n ≡ 2 * k.opened → number (in_side bay) < n
    in-below n h = let w = number-lt (in_side bay) k.opened there in omega (arith, w, h)

    out-below : (n : ℕ) → n ≡ 2 * k.opened → number (out_side bay) < n
    out-below n h = let w = number-lt (out_side bay) k.opened there in omega (arith, w, h)

    apart : number (in_side bay) ≢ number (out_side bay)
    apart h = absurd (omega (arith, h))

    module _ {A : Type 0} (none x y : A) (xs : List A) (h : length xs ≡ 2 * k.opened) where
      two_first : slice_index_or (slice_set (slice_set xs (number (in_side bay)) x) (number (out_side bay)) y) (number (in_side bay))
          none ≡ x
      two_first =
          get_or-set_other (slice_set xs (number (in_side bay)) x) (number (out_side bay)) (number (in_side bay)) y none apart
          ∙ get_or-set_same xs (number (in_side bay)) x none (in-below (length xs) h)

      two_second : slice_index_or (slice_set (slice_set xs (number (in_side bay)) x) (number (out_side bay)) y) (number (out_side bay))
          none ≡ y
      two_second =
          get_or-set_same (slice_set xs (number (in_side bay)) x) (number (out_side bay)) y none
          (out-below (length (slice_set xs (number (in_side bay)) x)) (length-set xs (number (in_side bay)) x ∙ h))

    pub fresh_new : IsFresh time turn near far (with_new_link bay time turn near far k) bay
    fresh_new = record {
      near_side = two_first no_side (opening_side time turn near) (opening_side time turn far) k.sides pairs.sides;
      far_side = two_second no_side (opening_side time turn near) (opening_side time turn far) k.sides pairs.sides;
      near_flow = two_first no_flow no_flow no_flow k.flows pairs.flows;
      far_flow = two_second no_flow no_flow no_flow k.flows pairs.flows;
      near_lane = two_first no_lane (fresh_lane near.read far.write) (fresh_lane far.read near.write) k.lanes pairs.lanes;
      far_lane = two_second no_lane (fresh_lane near.read far.write) (fresh_lane far.read near.write) k.lanes pairs.lanes;
      near_gauge = two_first no_gauge (gauge_begun near.limit time) (gauge_begun far.limit time) k.gauges pairs.gauges;
      far_gauge = two_second no_gauge (gauge_begun near.limit time) (gauge_begun far.limit time) k.gauges pairs.gauges;
    }

-- in a bay more

module _ {A : Type 0} (none x y : A) (xs : List A) (count : ℕ) (h : length xs ≡ 2 * count) where
  alike_more : AlikeBeside none count xs (xs ++ x ∷ y ∷ [])
  alike_more n d = at (nat_lt n (length xs)) refl
    where
      at : (c : Bool) → nat_lt n (length xs) ≡ c → slice_index_or (xs ++ x ∷ y ∷ []) n none ≡ slice_index_or xs n none
      at true e = get_or_append_left xs (x ∷ y ∷ []) none n (ltb-true n (length xs) e)
      at false e =
          let w : length xs ≤ n = ltb-false n (length xs) e in
          let past : length xs + 2 ≤ n = beyond n d w in
          get_or_past (xs ++ x ∷ y ∷ []) n none (let l = length-append xs (x ∷ y ∷ []) in omega (arith, l, past))
          ∙ sym (get_or_past xs n none w)
        where
          beyond : (m : ℕ) → m / 2 ≢ count → length xs ≤ m → length xs + 2 ≤ m
          beyond m c v = go (nat_lt m (length xs + 2)) refl
            where
              go : (z : Bool) → nat_lt m (length xs + 2) ≡ z → length xs + 2 ≤ m
              go true p = absurd (c (let u = ltb-true m (length xs + 2) p in omega (arith, u, v, h)))
              go false p = ltb-false m (length xs + 2) p

  first_more : slice_index_or (xs ++ x ∷ y ∷ []) (number (in_side count)) none ≡ x
  first_more =
      let at : number (in_side count) ≡ length xs + 0 = omega (arith, h) in
      ap (λ n. slice_index_or (xs ++ x ∷ y ∷ []) n none) at ∙ get_or-append-add xs (x ∷ y ∷ []) 0 none

  second_more : slice_index_or (xs ++ x ∷ y ∷ []) (number (out_side count)) none ≡ y
  second_more =
      let at : number (out_side count) ≡ length xs + 1 = omega (arith, h) in
      ap (λ n. slice_index_or (xs ++ x ∷ y ∷ []) n none) at ∙ get_or-append-add xs (x ∷ y ∷ []) 1 none

  length_more : length (xs ++ x ∷ y ∷ []) ≡ 2 * (count + 1)
  length_more = let l = length-append xs (x ∷ y ∷ []) in omega (arith, l, h)

module _ (time turn : ℕ) (near far : NewSide) (k : Links) (pairs : HasPairs k) where
  abbrev s1 : PlainSide
  s1 = opening_side time turn near

  abbrev s2 : PlainSide
  s2 = opening_side time turn far

  abbrev l1 : Lane
  l1 = fresh_lane near.read far.write

  abbrev l2 : Lane
  l2 = fresh_lane far.read near.write

  abbrev g1 : Gauge
  g1 = gauge_begun near.limit time

  abbrev g2 : Gauge
  g2 = gauge_begun far.limit time

  pub alike_link : Alike k.opened k (with_link time turn near far k)
  alike_link = record {
    sides = alike_more no_side s1 s2 k.sides k.opened pairs.sides;
    flows = alike_more no_flow no_flow no_flow k.flows k.opened pairs.flows;
    lanes = alike_more no_lane l1 l2 k.lanes k.opened pairs.lanes;
    gauges = alike_more no_gauge g1 g2 k.gauges k.opened pairs.gauges;
  }

  pub fresh_link : IsFresh time turn near far (with_link time turn near far k) k.opened
  fresh_link = record {
    near_side = first_more no_side s1 s2 k.sides k.opened pairs.sides;
    far_side = second_more no_side s1 s2 k.sides k.opened pairs.sides;
    near_flow = first_more no_flow no_flow no_flow k.flows k.opened pairs.flows;
    far_flow = second_more no_flow no_flow no_flow k.flows k.opened pairs.flows;
    near_lane = first_more no_lane l1 l2 k.lanes k.opened pairs.lanes;
    far_lane = second_more no_lane l1 l2 k.lanes k.opened pairs.lanes;
    near_gauge = first_more no_gauge g1 g2 k.gauges k.opened pairs.gauges;
    far_gauge = second_more no_gauge g1 g2 k.gauges k.opened pairs.gauges;
  }

  pub pairs_link : HasPairs (with_link time turn near far k)
  pairs_link = record {
    sides = length_more no_side s1 s2 k.sides k.opened pairs.sides;
    flows = length_more no_flow no_flow no_flow k.flows k.opened pairs.flows;
    lanes = length_more no_lane l1 l2 k.lanes k.opened pairs.lanes;
    gauges = length_more no_gauge g1 g2 k.gauges k.opened pairs.gauges;
  }

-- What is so of a pool with a link more

module _ (r : Inside) (inv : ArePooled r) (v : SidesValue) (vec : Vec Stay) (own : Vec (Option ℕ)) (free : Vec ℕ)
    (bay : ℕ) (pairs : HasPairs v.links) (bays : length own.items ≡ v.links.opened) (few : length r.links.items + 1 < 2 ^ 32)
    (items : vec.items ≡ r.links.items ++ stay.Bay bay ∷ [])
    (kept : (u n : ℕ) → slice_get r.owners.items u ≡ Some (Some n) → slice_get own.items u ≡ Some (Some n))
    (new_one : slice_get own.items bay ≡ Some (Some (length r.links.items)))
    (back : AreGivenBack free own.items (map is_in_bay r.links.items ++ true ∷ [])) where
  abbrev longer_stays : List Stay
  longer_stays = r.links.items ++ stay.Bay bay ∷ []

  stay_kept : (n : ℕ) (x : Stay) → IsStay r.owners.items n x → IsStay own.items n x
  stay_kept n (stay.Bay u) h = kept u n h
  stay_kept n (stay.Over o) h = h

  stay_more : (n : ℕ) → n < length (r.links.items ++ stay.Bay bay ∷ []) →
      IsStay own.items n (stay_at (r.links.items ++ stay.Bay bay ∷ []) n)
  stay_more n w = at (nat_lt n (length r.links.items)) refl
    where
      at : (c : Bool) → nat_lt n (length r.links.items) ≡ c → IsStay own.items n (stay_at longer_stays n)
      at true e =
          let b = ltb-true n (length r.links.items) e in
          subst (λ x. IsStay own.items n x) (sym (get_or_append_left r.links.items (stay.Bay bay ∷ []) (stay.Bay 0) n b))
          (stay_kept n (stay_at r.links.items n) (inv.stays n b))
      at false e =
          let b = ltb-false n (length r.links.items) e in
          let l = length-append r.links.items (stay.Bay bay ∷ []) in
          let is : n ≡ length r.links.items = omega (arith, b, l, w) in
          subst (λ m. IsStay own.items m (stay_at longer_stays m)) (sym is)
          (subst (λ x. IsStay own.items (length r.links.items) x) (sym (get_or-append_seam r.links.items (stay.Bay bay) [] (stay.Bay 0)))
          new_one)

  pub pooled_more : ArePooled (record { sides = v; links = vec; owners = own; free = free })
  pooled_more =
      let l = length-append r.links.items (stay.Bay bay ∷ []) in
      record {
        pairs = pairs;
        bays = bays;
        few = subst (λ (xs : List Stay). length xs < 2 ^ 32) (sym items) (omega (arith, few, l));
        stays = subst (λ (xs : List Stay). (n : ℕ) → n < length xs → IsStay own.items n (stay_at xs n)) (sym items) stay_more;
        free = subst (λ (xs : List Stay). AreGivenBack free own.items (map is_in_bay xs)) (sym items)
            (subst (λ ks. AreGivenBack free own.items ks) (sym (map_push is_in_bay r.links.items (stay.Bay bay))) back);
      }

-- what was pushed stands behind the others
pub pushed_on : {A T E : Type 0} (r : Result T E) (x : T) (xs ys : List A) (y : A) → r ≡ Ok x →
    ys ≡ (if is_ok r then xs ++ y ∷ [] else xs) → ys ≡ xs ++ y ∷ []
pushed_on r x xs ys y e h = h ∙ ap (λ z. if is_ok z then xs ++ y ∷ [] else xs) e

-- no link is in a bay that has no owner, or that there was not
module _ (r : Inside) (inv : ArePooled r) where
  pub away_free : (bay : ℕ) → slice_get r.owners.items bay ≡ Some None → (n : ℕ) → n < length r.links.items →
      IsBay (stay_at r.links.items n) → link_in (stay_at r.links.items n) ≢ bay
  away_free bay free n b = go (stay_at r.links.items n) (inv.stays n b)
    where
      go : (x : Stay) → IsStay r.owners.items n x → IsBay x → link_in x ≢ bay
      go (stay.Bay u) p h = unowned r.owners.items u bay n p free
      go (stay.Over o) p h = absurd h

  pub away_more : (n : ℕ) → n < length r.links.items → IsBay (stay_at r.links.items n) →
      link_in (stay_at r.links.items n) ≢ r.sides.links.opened
  away_more n b = go (stay_at r.links.items n) (inv.stays n b)
    where
      go : (x : Stay) → IsStay r.owners.items n x → IsBay x → link_in x ≢ r.sides.links.opened
      go (stay.Bay u) p h e = absurd (let w = slice_get_within r.owners.items u (Some n) p in omega (arith, w, inv.bays, e))
      go (stay.Over o) p h e = absurd h

pub few_more : (r : Inside) → 0 < links_spare r → length r.links.items + 1 < 2 ^ 32
few_more r h = at (nat_lt (length r.links.items + 1) (2 ^ 32)) refl
  where
    at : (c : Bool) → nat_lt (length r.links.items + 1) (2 ^ 32) ≡ c → length r.links.items + 1 < 2 ^ 32
    at true e = ltb-true (length r.links.items + 1) (2 ^ 32) e
    at false e =
        let none : links_spare r ≡ 0 =
        (λ i. if e i && nat_lt (vec_len r.links) (vec_capacity r.links) then room_for r else 0) in
        absurd (omega (arith, h, none))

if-some : (b : Bool) (n : ℕ) → 0 < (if b then n else 0) → (b ≡ true) × (0 < n)
if-some true n h = (refl, h)
if-some false n h = absurd (omega (arith, h))

and-second : (a b : Bool) → a && b ≡ true → b ≡ true
and-second true b h = h
and-second false b h = absurd (cc h)

-- where there is room for a link in a new bay, that can be given back
pub bay_room : (r : Inside) → vec_len r.free ≡ 0 → 0 < links_spare r → vec_len r.owners < vec_capacity r.free
bay_room r none h =
    let few : Bool = nat_lt (length r.links.items + 1) (2 ^ 32) && nat_lt (vec_len r.links) (vec_capacity r.links) in
    let own : Bool = nat_lt (vec_len r.owners) (vec_capacity r.owners) in
    let back : Bool = nat_lt (vec_len r.owners) (vec_capacity r.free) in
    let room : 0 < bays_of r =
    subst (λ n. 0 < (if nat_lt 0 n then 1 else bays_of r)) none (if-some few (room_for r) h).1 in
    ltb-true (vec_len r.owners) (vec_capacity r.free) (and-second own back (if-some (own && back) r.sides.spare_links room).0)

-- A link leaves its bay

alone-side : (k : Links) (bay : ℕ) (s : Side) → side_at k (side_of bay s) ≡ side_at (link_alone k bay) (side_of 0 s)
alone-side k bay In = refl
alone-side k bay Out = refl

alone-flow : (k : Links) (bay : ℕ) (s : Side) → flow_at k (side_of bay s) ≡ flow_at (link_alone k bay) (side_of 0 s)
alone-flow k bay In = refl
alone-flow k bay Out = refl

alone-lane : (k : Links) (bay : ℕ) (s : Side) → lane_at k (side_of bay s) ≡ lane_at (link_alone k bay) (side_of 0 s)
alone-lane k bay In = refl
alone-lane k bay Out = refl

alone-gauge : (k : Links) (bay : ℕ) (s : Side) → gauge_at k (side_of bay s) ≡ gauge_at (link_alone k bay) (side_of 0 s)
alone-gauge k bay In = refl
alone-gauge k bay Out = refl

module _ (r : Inside) (inv : ArePooled r) (link : ℕ) (b : link < length r.links.items) (in_bay : IsBay (stay_at r.links.items link))
    (bay : ℕ) (is : bay ≡ link_in (stay_at r.links.items link)) (o : Over) (over : IsRemnant o) where
  abbrev left_stays : List Stay
  left_stays = slice_set r.links.items link (stay.Over o)

  over_there : stay_at (slice_set r.links.items link (stay.Over o)) link ≡ stay.Over o
  over_there = get_or-set_same r.links.items link (stay.Over o) (stay.Bay 0) b

  count_left : length (slice_set r.links.items link (stay.Over o)) ≡ length r.links.items
  count_left = length-set r.links.items link (stay.Over o)

  pub left_same : o.memory.kept ≡ link_alone r.sides.links bay →
      links_seen (slice_set r.links.items link (stay.Over o)) r.sides.links ≡ links_seen r.links.items r.sides.links
  left_same kept =
      let k = r.sides.links in
      let i = subst (λ n. Image n link k (links_seen r.links.items k)) (sym is) (image_bay r inv link b in_bay) in
      let after = subst (λ x. Image (link_in x) link (links_with k x) (links_seen left_stays k)) over_there
      (image_of left_stays k link (omega (arith, b, count_left)) (subst (λ x. HasPairs (links_with k x)) (sym over_there) over.pairs)
      (subst (λ x. link_in x < (links_with k x).opened) (sym over_there) (omega (arith, over.one)))) in
      let alone : Image 0 link (link_alone k bay) (links_seen r.links.items k) = record {
        side = λ s. i.side s ∙ alone-side k bay s;
        flow = λ s. i.flow s ∙ alone-flow k bay s;
        lane = λ s. i.lane s ∙ alone-lane k bay s;
        gauge = λ s. i.gauge s ∙ alone-gauge k bay s;
        from_pairs = subst (λ (z : Links). HasPairs z) kept over.pairs;
        to_pairs = i.to_pairs;
        from_there = omega arith;
        to_there = i.to_there;
      } in
      same_links 0 link (link_alone k bay) (links_seen r.links.items k) (links_seen left_stays k) (links_seen r.links.items k)
      (touches_set r inv link b left_stays (ap (slice_set r.links.items link) (sym over_there)))
      (touches_none link (links_seen r.links.items k))
      (subst (λ (z : Links). Image 0 link z (links_seen left_stays k)) kept after) alone

  owner_is : slice_get r.owners.items bay ≡ Some (Some link)
  owner_is = ap (slice_get r.owners.items) is ∙ go (stay_at r.links.items link) (inv.stays link b) in_bay
    where
      go : (x : Stay) → IsStay r.owners.items link x → IsBay x → slice_get r.owners.items (link_in x) ≡ Some (Some link)
      go (stay.Bay u) p h = p
      go (stay.Over z) p h = absurd h

  abbrev left_owners : List (Option ℕ)
  left_owners = slice_set r.owners.items bay None

  stay_still : (n : ℕ) → n ≢ link → (x : Stay) → IsStay r.owners.items n x → IsStay left_owners n x
  stay_still n d (stay.Bay u) p =
      other_set r.owners.items bay None u (Some n)
      (λ e. d (one_owner r.owners.items bay n link (ap (slice_get r.owners.items) (sym e) ∙ p) owner_is)) p
  stay_still n d (stay.Over z) p = p

  stays_left : (n : ℕ) → n < length (slice_set r.links.items link (stay.Over o)) →
      IsStay (slice_set r.owners.items bay None) n (stay_at (slice_set r.links.items link (stay.Over o)) n)
  stays_left n w = at (n == link) refl
    where
      at : (c : Bool) → (n == link) ≡ c → IsStay left_owners n (stay_at left_stays n)
      at true e =
          let h = eqb-true n link e in
          subst (λ m. IsStay left_owners m (stay_at left_stays m)) (sym h) (subst (λ x. IsStay left_owners link x) (sym over_there) over)
      at false e =
          let d = eqb-false n link e in
          subst (λ x. IsStay left_owners n x) (sym (get_or-set_other r.links.items link n (stay.Over o) (stay.Bay 0) d))
          (stay_still n d (stay_at r.links.items n) (inv.stays n (omega (arith, w, count_left))))

  kept_there : slice_index_or (map is_in_bay r.links.items) link true ≡ true
  kept_there = get_or-map is_in_bay r.links.items link (stay.Bay 0) true b ∙ go (stay_at r.links.items link) in_bay
    where
      go : (x : Stay) → IsBay x → is_in_bay x ≡ true
      go (stay.Bay u) h = refl
      go (stay.Over z) h = absurd h

  count_kept : link < length (map is_in_bay r.links.items)
  count_kept = let l = length-map r.links.items is_in_bay in omega (arith, b, l)

  pub room_back : length r.free.items < vec_capacity r.free
  room_back = back_room r.free r.owners.items (map is_in_bay r.links.items) inv.free bay link owner_is count_kept kept_there

  pub pooled_without : (free : Vec ℕ) → free.items ≡ r.free.items ++ bay ∷ [] → vec_capacity free ≡ vec_capacity r.free →
      ArePooled (record r { links = with_item r.links link (stay.Over o); owners = with_item r.owners bay None; free = free })
  pooled_without free items room = record {
    pairs = inv.pairs;
    bays = length-set r.owners.items bay None ∙ inv.bays;
    few = let f = inv.few in omega (arith, f, count_left);
    stays = stays_left;
    free = subst (λ ks. AreGivenBack free left_owners ks) (sym (map-set is_in_bay r.links.items link (stay.Over o)))
        (back_left r.free r.owners.items (map is_in_bay r.links.items) inv.free bay link owner_is count_kept kept_there free items
        room);
  }
