-- The links of a pool, each as it stands in a bay or is remembered.
use Rattle.std.proofs.Common.{◌≡◌, ◌≢◌, ℕ, ◌+◌, ◌*◌, ◌/◌, ◌%◌, ◌<◌, ◌≤◌, ◌^◌, Bool, true, false, ◌==◌, ◌||◌, List, length, map}
use Rattle.std.proofs.Common.{slice_index_or, slice_set, refl, sym}
use Rattle.std.proofs.Common.{◌∙◌, ap, arith, eqb-true, subst, nat_lt}
use Rattle.std.specs.Prelude.{Option, Some, None, slice_get}
use Rattle.std.specs.Global.{Vec}
use Rattle.std.proofs.lemmas.Bool.{eqb-false, ltb-true, ltb-false}
use Rattle.std.proofs.lemmas.List.{get_or_past, get_or-set_other, length-set}
use Rattle.std.proofs.lemmas.Option.{slice_get_within}
use Rattle.ev_types.specs.declared.side.Side.{Side}
use Rattle.ev_types.specs.declared.side.Side.TheVariants.{In, Out}
use Rattle.ev_types.specs.declared.side.SideId.{SideId}
use Rattle.ev_types.specs.Sides.{half, number, other, peer}
use Rattle.relay_model.specs.Flow.{no_flow}
use Rattle.relay_model.specs.Plain.{PlainSide, no_side}
use Rattle.relay_state.specs.Running.{no_gauge}
use Rattle.relay_state.specs.State.{Lane, no_lane}
use Rattle.relay_sides.specs.Links.{Links, side_at, flow_at, lane_at, gauge_at}
use Rattle.relay_sides.specs.Pairs.{HasPairs}
use Rattle.relay_sides.specs.Table.{tabulate}
use Rattle.relay_sides.proofs.BevsLemmas.{number-lt}
use Rattle.relay_sides.proofs.TableLemmas.{length-tabulate, get-tabulate}
use Rattle.relay_pool.specs.Over.{one_side}
use Rattle.relay_pool.specs.PoolValue.{PoolValue, KeepsBays, has_live_side}
use Rattle.relay_pool.specs.PoolView.{part_at, links_seen, pool_of, AreGivenBack, ArePooled}
use Rattle.relay_pool.specs.Stays.{links_with, link_in, stay_at, at_stay, is_in_bay, IsBay, IsOutOfBay, IsRemnant, IsStay}
use Rattle.relay_pool.specs.Stays.{IsLeftBy, Remembers}
use Rattle.relay_pool.specs.declared.pool.LinkPool.TheInside.{Inside}
use Rattle.relay_pool.specs.declared.stay.Over.{Over}
use Rattle.relay_pool.specs.declared.stay.Stay.{Stay}
use Rattle.relay_pool.specs.declared.stay.Stay.TheVariants as stay
use Rattle.relay_pool.proofs.TouchLemmas.{Touches, AlikeBeside, touches_none}
use Rattle.relay_pool.proofs.LiftLemmas.{Image, side_of, same_links}
use Rattle.relay_pool.proofs.OwnerLemmas.{kept_still}

-- two sides and two directions for each link
pub pairs_of : (stays : List Stay) (k : Links) → HasPairs (links_seen stays k)
pairs_of stays k = record {
  sides = length-tabulate (part_at (λ (x : Links). x.sides) no_side k stays) (2 * length stays);
  flows = length-tabulate (part_at (λ (x : Links). x.flows) no_flow k stays) (2 * length stays);
  lanes = length-tabulate (part_at (λ (x : Links). x.lanes) no_lane k stays) (2 * length stays);
  gauges = length-tabulate (part_at (λ (x : Links). x.gauges) no_gauge k stays) (2 * length stays);
}

half-below : (s : Side) → half s ≤ 1
half-below In = omega arith
half-below Out = omega arith

-- what the lists have of a side
module _ {A : Type 0} (get : Links → List A) (none : A) (k : Links) (stays : List Stay) (link : ℕ) (s : Side) where
  part_seen : part_at get none k stays (number (side_of link s))
      ≡ slice_index_or (get (links_with k (stay_at stays link))) (number (side_of (link_in (stay_at stays link)) s)) none
  part_seen =
      let h = half-below s in
      let q : number (side_of link s) / 2 ≡ link = omega (arith, h) in
      let r : number (side_of link s) % 2 ≡ half s = omega (arith, h) in
      λ i. let x = stay_at stays (q i) in slice_index_or (get (links_with k x)) (2 * link_in x + r i) none

  pub seen_of : link < length stays →
      slice_index_or (tabulate (part_at get none k stays) (2 * length stays)) (number (side_of link s)) none
      ≡ slice_index_or (get (links_with k (stay_at stays link))) (number (side_of (link_in (stay_at stays link)) s)) none
  seen_of b =
      get-tabulate (part_at get none k stays) (2 * length stays) (number (side_of link s)) none
      (number-lt (side_of link s) (length stays) b)
      ∙ part_seen

-- each link is an image of what is kept of it
module _ (stays : List Stay) (k : Links) (link : ℕ) (b : link < length stays) where
  pub image_of : HasPairs (links_with k (stay_at stays link)) → link_in (stay_at stays link) < (links_with k (stay_at stays link)).opened →
      Image (link_in (stay_at stays link)) link (links_with k (stay_at stays link)) (links_seen stays k)
  image_of pairs there = record {
    side = λ s. seen_of (λ (x : Links). x.sides) no_side k stays link s b;
    flow = λ s. seen_of (λ (x : Links). x.flows) no_flow k stays link s b;
    lane = λ s. seen_of (λ (x : Links). x.lanes) no_lane k stays link s b;
    gauge = λ s. seen_of (λ (x : Links). x.gauges) no_gauge k stays link s b;
    from_pairs = pairs;
    to_pairs = pairs_of stays k;
    from_there = there;
    to_there = b;
  }

-- what stands in bays but one is not changed with that one
pub part_away : {A : Type 0} (get : Links → List A) (none : A) (k k' : Links) (stays : List Stay) (bay : ℕ) →
    AlikeBeside none bay (get k) (get k') → (n : ℕ) → (IsBay (stay_at stays (n / 2)) → link_in (stay_at stays (n / 2)) ≢ bay) →
    part_at get none k' stays n ≡ part_at get none k stays n
part_away get none k k' stays bay alike n away = go (stay_at stays (n / 2)) away
  where
    go : (x : Stay) → (IsBay x → link_in x ≢ bay) →
        slice_index_or (get (links_with k' x)) (2 * link_in x + n % 2) none
        ≡ slice_index_or (get (links_with k x)) (2 * link_in x + n % 2) none
    go (stay.Bay u) h = alike (2 * u + n % 2) (λ e. h tt (omega (arith, e)))
    go (stay.Over over) h = refl

-- the two names of a bay's owner are one
abbrev owner-of : Option (Option ℕ) → ℕ
owner-of (Some (Some n)) = n
owner-of (Some None) = 0
owner-of None = 0

pub one_owner : (owners : List (Option ℕ)) (bay a b : ℕ) → slice_get owners bay ≡ Some (Some a) → slice_get owners bay ≡ Some (Some b) →
    a ≡ b
one_owner owners bay a b p q = ap owner-of (sym p ∙ q)

module _ (r : Inside) (inv : ArePooled r) where
  abbrev stays0 : List Stay
  stays0 = r.links.items

  -- where a link is
  pub pairs_with : (link : ℕ) → link < length r.links.items → HasPairs (links_with r.sides.links (stay_at r.links.items link))
  pairs_with link b = go (stay_at stays0 link) (inv.stays link b)
    where
      go : (x : Stay) → IsStay r.owners.items link x → HasPairs (links_with r.sides.links x)
      go (stay.Bay bay) h = inv.pairs
      go (stay.Over over) h = h.pairs

  pub there_with : (link : ℕ) → link < length r.links.items →
      link_in (stay_at r.links.items link) < (links_with r.sides.links (stay_at r.links.items link)).opened
  there_with link b = go (stay_at stays0 link) (inv.stays link b)
    where
      go : (x : Stay) → IsStay r.owners.items link x → link_in x < (links_with r.sides.links x).opened
      go (stay.Bay bay) h = let w = slice_get_within r.owners.items bay (Some link) h in omega (arith, w, inv.bays)
      go (stay.Over over) h = omega (arith, h.one)

  pub image_at : (link : ℕ) → link < length r.links.items →
      Image (link_in (stay_at r.links.items link)) link (links_with r.sides.links (stay_at r.links.items link))
      (links_seen r.links.items r.sides.links)
  image_at link b = image_of stays0 r.sides.links link b (pairs_with link b) (there_with link b)

  -- a link in a bay, where the bays change

  module _ (link : ℕ) (b : link < length r.links.items) (in_bay : IsBay (stay_at r.links.items link)) (k : Links)
      (touch : Touches (link_in (stay_at r.links.items link)) r.sides.links k) where
    -- another link in a bay is in another one
    other_bay : (n : ℕ) → n < length r.links.items → n ≢ link → (x y : Stay) → IsStay r.owners.items n x → IsStay r.owners.items link y →
        IsBay y → IsBay x → link_in x ≢ link_in y
    other_bay n w d (stay.Bay u) (stay.Bay v) p q own also e =
        d (one_owner r.owners.items u n link p (subst (λ z. slice_get r.owners.items z ≡ Some (Some link)) (sym e) q))
    other_bay n w d (stay.Over u) y p q own also e = absurd also
    other_bay n w d (stay.Bay u) (stay.Over v) p q own also e = absurd own

    module _ {A : Type 0} (get : Links → List A) (none : A)
        (alike : AlikeBeside none (link_in (stay_at r.links.items link)) (get r.sides.links) (get k)) where
      part_kept : (n : ℕ) → n < 2 * length r.links.items → n / 2 ≢ link →
          part_at get none k r.links.items n ≡ part_at get none r.sides.links r.links.items n
      part_kept n w d =
          let m = n / 2 in
          let v : m < length stays0 = omega (arith, w) in
          part_away get none r.sides.links k stays0 (link_in (stay_at stays0 link)) alike n
          (other_bay m v d (stay_at stays0 m) (stay_at stays0 link) (inv.stays m v) (inv.stays link b) in_bay)

      list_kept : AlikeBeside none link (tabulate (part_at get none r.sides.links r.links.items) (2 * length r.links.items))
          (tabulate (part_at get none k r.links.items) (2 * length r.links.items))
      list_kept n d = at (nat_lt n (2 * length stays0)) refl
        where
          f : ℕ → A
          f = part_at get none k stays0

          g : ℕ → A
          g = part_at get none r.sides.links stays0

          at : (c : Bool) → nat_lt n (2 * length stays0) ≡ c →
              slice_index_or (tabulate f (2 * length stays0)) n none ≡ slice_index_or (tabulate g (2 * length stays0)) n none
          at true e =
              let w : n < 2 * length stays0 = ltb-true n (2 * length stays0) e in
              get-tabulate f (2 * length stays0) n none w ∙ part_kept n w d ∙ sym (get-tabulate g (2 * length stays0) n none w)
          at false e =
              let w : 2 * length stays0 ≤ n = ltb-false n (2 * length stays0) e in
              get_or_past (tabulate f (2 * length stays0)) n none
              (omega (arith, w, length-tabulate f (2 * length stays0)))
              ∙ sym (get_or_past (tabulate g (2 * length stays0)) n none (omega (arith, w, length-tabulate g (2 * length stays0))))

    pub touches_pool : Touches link (links_seen r.links.items r.sides.links) (links_seen r.links.items k)
    touches_pool = record {
      opened = refl;
      sides = list_kept (λ (x : Links). x.sides) no_side touch.sides;
      flows = list_kept (λ (x : Links). x.flows) no_flow touch.flows;
      lanes = list_kept (λ (x : Links). x.lanes) no_lane touch.lanes;
      gauges = list_kept (λ (x : Links). x.gauges) no_gauge touch.gauges;
      pairs = λ p. pairs_of stays0 k;
    }

    -- and it is the image of what is in the bay then
    pub image_then : Image (link_in (stay_at r.links.items link)) link k (links_seen r.links.items k)
    image_then = go (stay_at stays0 link) refl in_bay
      where
        go : (x : Stay) → stay_at stays0 link ≡ x → IsBay x → Image (link_in (stay_at stays0 link)) link k (links_seen stays0 k)
        go (stay.Bay bay) e h =
            let old = pairs_with link b in
            let with : links_with k (stay_at stays0 link) ≡ k = ap (links_with k) e in
            let was : links_with r.sides.links (stay_at stays0 link) ≡ r.sides.links = ap (links_with r.sides.links) e in
            let there : link_in (stay_at stays0 link) < r.sides.links.opened =
            subst (λ (z : Links). link_in (stay_at stays0 link) < z.opened) was (there_with link b) in
            let pairs = touch.pairs inv.pairs in
            subst (λ (z : Links). Image (link_in (stay_at stays0 link)) link z (links_seen stays0 k)) with
            (image_of stays0 k link b (subst (λ (z : Links). HasPairs z) (sym with) pairs)
            (subst (λ (z : Links). link_in (stay_at stays0 link) < z.opened) (sym with) (omega (arith, there, touch.opened))))
        go (stay.Over over) e h = absurd h

  -- it is the image of what is in the bay before too
  pub image_bay : (link : ℕ) → link < length r.links.items → IsBay (stay_at r.links.items link) →
      Image (link_in (stay_at r.links.items link)) link r.sides.links (links_seen r.links.items r.sides.links)
  image_bay link b in_bay =
      image_then link b in_bay r.sides.links (touches_none (link_in (stay_at stays0 link)) r.sides.links)

  -- one link is somewhere else

  module _ (link : ℕ) (b : link < length r.links.items) (new : List Stay)
      (rest : new ≡ slice_set r.links.items link (stay_at new link)) where
    pub same_length : length new ≡ length r.links.items
    same_length = ap length rest ∙ length-set stays0 link (stay_at new link)

    pub other_stay : (n : ℕ) → n ≢ link → stay_at new n ≡ stay_at r.links.items n
    other_stay n d =
        ap (λ xs. stay_at xs n) rest ∙ get_or-set_other stays0 link n (stay_at new link) (stay.Bay 0) d

    module _ {A : Type 0} (get : Links → List A) (none : A) where
      abbrev f : ℕ → A
      f = part_at get none r.sides.links new

      abbrev g : ℕ → A
      g = part_at get none r.sides.links stays0

      list_left : AlikeBeside none link (tabulate (part_at get none r.sides.links r.links.items) (2 * length r.links.items))
          (tabulate (part_at get none r.sides.links new) (2 * length new))
      list_left n d = at (nat_lt n (2 * length stays0)) refl
        where
          at : (c : Bool) → nat_lt n (2 * length stays0) ≡ c →
              slice_index_or (tabulate f (2 * length new)) n none ≡ slice_index_or (tabulate g (2 * length stays0)) n none
          at true e =
              let w : n < 2 * length stays0 = ltb-true n (2 * length stays0) e in
              get-tabulate f (2 * length new) n none (omega (arith, w, same_length))
              ∙ (λ i. let x = other_stay (n / 2) d i in slice_index_or (get (links_with r.sides.links x)) (2 * link_in x + n % 2) none)
              ∙ sym (get-tabulate g (2 * length stays0) n none w)
          at false e =
              let w : 2 * length stays0 ≤ n = ltb-false n (2 * length stays0) e in
              get_or_past (tabulate f (2 * length new)) n none (omega (arith, w, same_length, length-tabulate f (2 * length new)))
              ∙ sym (get_or_past (tabulate g (2 * length stays0)) n none (omega (arith, w, length-tabulate g (2 * length stays0))))

    pub touches_set : Touches link (links_seen r.links.items r.sides.links) (links_seen new r.sides.links)
    touches_set = record {
      opened = same_length;
      sides = list_left (λ (x : Links). x.sides) no_side;
      flows = list_left (λ (x : Links). x.flows) no_flow;
      lanes = list_left (λ (x : Links). x.lanes) no_lane;
      gauges = list_left (λ (x : Links). x.gauges) no_gauge;
      pairs = λ p. pairs_of new r.sides.links;
    }

  -- a link that is over, of which something changes
  module _ (link : ℕ) (b : link < length r.links.items) (over : IsOutOfBay (stay_at r.links.items link)) (change : Links → Links)
      (new : List Stay) (left : IsLeftBy change link r.links.items new) where
    len : length new ≡ length r.links.items
    len = same_length link b new left.rest

    -- it stays over
    stay_left : (n : ℕ) → n < length new → IsStay r.owners.items n (stay_at new n)
    stay_left n w = at (n == link) refl
      where
        go : (x y : Stay) → IsStay r.owners.items link x → Remembers change x y → IsStay r.owners.items link y
        go (stay.Over o) (stay.Over z) h q = q.1 h
        go (stay.Over o) (stay.Bay u) h q = absurd q
        go (stay.Bay u) y h q = absurd q

        at : (c : Bool) → (n == link) ≡ c → IsStay r.owners.items n (stay_at new n)
        at true e =
            let is = eqb-true n link e in
            subst (λ m. IsStay r.owners.items m (stay_at new m)) (sym is)
            (go (stay_at stays0 link) (stay_at new link) (inv.stays link b) left.there)
        at false e =
            subst (λ x. IsStay r.owners.items n x) (sym (other_stay link b new left.rest n (eqb-false n link e)))
            (inv.stays n (omega (arith, w, len)))

    -- and is not kept still
    pub kept_left : map is_in_bay new ≡ map is_in_bay r.links.items
    kept_left = kept_still r.links.items new link b left.rest (go (stay_at stays0 link) (stay_at new link) over left.there)
      where
        go : (x y : Stay) → IsOutOfBay x → Remembers change x y → is_in_bay y ≡ is_in_bay x
        go (stay.Over o) (stay.Over z) h q = refl
        go (stay.Over o) (stay.Bay u) h q = absurd q
        go (stay.Bay u) y h q = absurd h

    pub pooled_left : (v : Vec Stay) → v.items ≡ new → ArePooled (record r { links = v })
    pooled_left v is = record {
      pairs = inv.pairs;
      bays = inv.bays;
      few = let f = inv.few in subst (λ xs. length xs < 2 ^ 32) (sym is) (omega (arith, f, len));
      stays = subst (λ xs. (n : ℕ) → n < length xs → IsStay r.owners.items n (stay_at xs n)) (sym is) stay_left;
      free = subst (λ ks. AreGivenBack r.free r.owners.items ks) (sym (ap (map is_in_bay) is ∙ kept_left)) inv.free;
    }

    -- and it is the image of what is remembered of it
    pub image_left : (x y : Stay) → stay_at r.links.items link ≡ x → stay_at new link ≡ y → Remembers change x y →
        Image 0 link (change (links_with r.sides.links x)) (links_seen new r.sides.links)
    image_left (stay.Over o) (stay.Over z) e e2 q =
        let h : IsRemnant o = subst (λ x. IsStay r.owners.items link x) e (inv.stays link b) in
        let n : IsRemnant z = q.1 h in
        let k = r.sides.links in
        let i = image_of new k link (omega (arith, b, len))
        (subst (λ x. HasPairs (links_with k x)) (sym e2) n.pairs)
        (subst (λ x. link_in x < (links_with k x).opened) (sym e2) (omega (arith, n.one))) in
        subst (λ (m : Links). Image 0 link m (links_seen new k)) q.0
        (subst (λ x. Image (link_in x) link (links_with k x) (links_seen new k)) e2 i)
    image_left (stay.Over o) (stay.Bay u) e e2 q = absurd q
    image_left (stay.Bay u) y e e2 q = absurd q

-- Calls: what they change of a link in its bay they change of the pool, and so it is with what is remembered.

pub record Lifts (F : SideId → Links → Links) : Type 0 where
  pub touches : (e : SideId) (k : Links) → Touches e.link k (F e k)
  pub image : (from to : ℕ) (old new : Links) → Image from to old new → (s : Side) →
      Image from to (F (side_of from s) old) (F (side_of to s) new)

module _ (v : PoolValue) (r : Inside) (is : pool_of r ≡ v) (inv : ArePooled r) (e : SideId) (opened : e.link < v.links.opened) where
  pub below_pool : e.link < length r.links.items
  below_pool = subst (λ (z : PoolValue). e.link < z.links.opened) (sym is) opened

  abbrev X : Stay
  X = stay_at r.links.items e.link

  -- a side in its bay

  module _ (a : SideId) (is_at : a ≡ at_stay (stay_at r.links.items e.link) e) (in_bay : IsBay (stay_at r.links.items e.link)) where
    img : Image (link_in (stay_at r.links.items e.link)) e.link r.sides.links v.links
    img = subst (λ (z : PoolValue). Image (link_in X) e.link r.sides.links z.links) is (image_bay r inv e.link below_pool in_bay)

    pub below_met : a.link < r.sides.links.opened
    below_met = subst (λ (z : SideId). z.link < r.sides.links.opened) (sym is_at) img.from_there

    pub side_met : side_at r.sides.links a ≡ side_at v.links e
    side_met = ap (side_at r.sides.links) is_at ∙ sym (img.side e.side)

    pub flow_met : flow_at r.sides.links a ≡ flow_at v.links e
    flow_met = ap (flow_at r.sides.links) is_at ∙ sym (img.flow e.side)

    pub peer_flow_met : flow_at r.sides.links (peer a) ≡ flow_at v.links (peer e)
    peer_flow_met = ap (λ (z : SideId). flow_at r.sides.links (peer z)) is_at ∙ sym (img.flow (other e.side))

    pub lane_met : lane_at r.sides.links a ≡ lane_at v.links e
    lane_met = ap (lane_at r.sides.links) is_at ∙ sym (img.lane e.side)

    pub peer_lane_met : lane_at r.sides.links (peer a) ≡ lane_at v.links (peer e)
    peer_lane_met = ap (λ (z : SideId). lane_at r.sides.links (peer z)) is_at ∙ sym (img.lane (other e.side))

    pub gauge_met : gauge_at r.sides.links a ≡ gauge_at v.links e
    gauge_met = ap (gauge_at r.sides.links) is_at ∙ sym (img.gauge e.side)

    -- a change there
    pub links_bay : (F : SideId → Links → Links) → Lifts F → (now : Links) → now ≡ F a r.sides.links →
        links_seen r.links.items now ≡ F e v.links
    links_bay F lifts now made =
        let at0 = at_stay X e in
        let A : Links = links_seen r.links.items r.sides.links in
        let is_made : now ≡ F at0 r.sides.links = made ∙ ap (λ z. F z r.sides.links) is_at in
        let touch = subst (λ (z : Links). Touches (link_in X) r.sides.links z) (sym is_made) (lifts.touches at0 r.sides.links) in
        let then = subst (λ (z : Links). Image (link_in X) e.link z (links_seen r.links.items now)) is_made
        (image_then r inv e.link below_pool in_bay now touch) in
        same_links (link_in X) e.link (F at0 r.sides.links) A (links_seen r.links.items now) (F e A)
        (touches_pool r inv e.link below_pool in_bay now touch) (lifts.touches e A) then
        (lifts.image (link_in X) e.link r.sides.links A (image_bay r inv e.link below_pool in_bay) e.side)
        ∙ ap (λ (z : PoolValue). F e z.links) is

  -- one of a link that is over

  module _ (o : Over) (is_over : stay_at r.links.items e.link ≡ stay.Over o) where
    pub over_met : IsRemnant o
    over_met = subst (λ x. IsStay r.owners.items e.link x) is_over (inv.stays e.link below_pool)

    img_over : Image 0 e.link o.memory.kept v.links
    img_over =
        subst (λ (z : PoolValue). Image 0 e.link o.memory.kept z.links) is
        (subst (λ x. Image (link_in x) e.link (links_with r.sides.links x) (links_seen r.links.items r.sides.links)) is_over
        (image_at r inv e.link below_pool))

    pub side_over : side_at o.memory.kept (one_side e.side) ≡ side_at v.links e
    side_over = sym (img_over.side e.side)

    pub flow_over : flow_at o.memory.kept (one_side e.side) ≡ flow_at v.links e
    flow_over = sym (img_over.flow e.side)

    pub peer_flow_over : flow_at o.memory.kept (peer (one_side e.side)) ≡ flow_at v.links (peer e)
    peer_flow_over = sym (img_over.flow (other e.side))

    pub lane_over : lane_at o.memory.kept (one_side e.side) ≡ lane_at v.links e
    lane_over = sym (img_over.lane e.side)

    pub peer_lane_over : lane_at o.memory.kept (peer (one_side e.side)) ≡ lane_at v.links (peer e)
    peer_lane_over = sym (img_over.lane (other e.side))

  as_over : (x : Stay) → IsOutOfBay x → Over
  as_over (stay.Bay bay) h = absurd h
  as_over (stay.Over o) h = o

  is_over_of : (x : Stay) (h : IsOutOfBay x) → x ≡ stay.Over (as_over x h)
  unfolding as_over
  is_over_of (stay.Bay bay) h = absurd h
  is_over_of (stay.Over o) h = refl

  module _ (left : IsOutOfBay (stay_at r.links.items e.link)) where
    abbrev o0 : Over
    o0 = as_over (stay_at r.links.items e.link) left

    end_of : (s : Side) → IsRemnant o0 → ((side_at o0.memory.kept (one_side s)).live ≡ false)
        × ((side_at o0.memory.kept (one_side s)).group ≡ None) × ((side_at o0.memory.kept (one_side s)).references ≡ 0)
        × (length (lane_at o0.memory.kept (peer (one_side s))).buffers.raw_output ≡ 0)
    end_of In h = (h.near.freed, h.near.groupless, h.near.unheld, h.near.taken)
    end_of Out h = (h.far.freed, h.far.groupless, h.far.unheld, h.far.taken)

    own : stay_at r.links.items e.link ≡ stay.Over o0
    own = is_over_of X left

    pub live_over : (side_at v.links e).live ≡ false
    live_over = ap (λ (z : PlainSide). z.live) (sym (side_over o0 own)) ∙ (end_of e.side (over_met o0 own)).0

    pub group_over : (side_at v.links e).group ≡ None
    group_over = ap (λ (z : PlainSide). z.group) (sym (side_over o0 own)) ∙ (end_of e.side (over_met o0 own)).1

    pub references_over : (side_at v.links e).references ≡ 0
    references_over = ap (λ (z : PlainSide). z.references) (sym (side_over o0 own)) ∙ (end_of e.side (over_met o0 own)).2

    pub taken_over : length (lane_at v.links (peer e)).buffers.raw_output ≡ 0
    taken_over =
        ap (λ (l : Lane). length l.buffers.raw_output) (sym (peer_lane_over o0 own)) ∙ (end_of e.side (over_met o0 own)).3

    -- a change of what is remembered
    module _ (F : SideId → Links → Links) (lifts : Lifts F) (now : Vec Stay)
        (went : IsLeftBy (F (one_side e.side)) e.link r.links.items now.items) where
      pub links_left : links_seen now.items r.sides.links ≡ F e v.links
      links_left =
          let A : Links = links_seen r.links.items r.sides.links in
          let i = subst (λ x. Image (link_in x) e.link (links_with r.sides.links x) A) own (image_at r inv e.link below_pool) in
          let q = subst (λ x. Remembers (F (one_side e.side)) x (stay_at now.items e.link)) own went.there in
          same_links 0 e.link (F (one_side e.side) o0.memory.kept) A (links_seen now.items r.sides.links) (F e A)
          (touches_set r inv e.link below_pool now.items went.rest) (lifts.touches e A)
          (image_left r inv e.link below_pool left (F (one_side e.side)) now.items went (stay.Over o0) (stay_at now.items e.link) own
          refl q)
          (lifts.image 0 e.link o0.memory.kept A i e.side)
          ∙ ap (λ (z : PoolValue). F e z.links) is

      pub pooled_over : ArePooled (record r { links = now })
      pooled_over = pooled_left r inv e.link below_pool left (F (one_side e.side)) now.items went now refl

      pub bays_left : KeepsBays v (pool_of (record r { links = now }))
      bays_left = record {
        kept = kept_left r inv e.link below_pool left (F (one_side e.side)) now.items went ∙ ap (λ (z : PoolValue). z.kept) is;
        bays = ap (λ (z : PoolValue). z.bays) is;
      }

  -- so a link is in a bay of which a side is live, or has a reference

  pub bay_unless : (x : Stay) → (IsOutOfBay x → ⊥) → IsBay x
  bay_unless (stay.Bay bay) h = tt
  bay_unless (stay.Over o) h = h tt

  pub bay_held : 0 < (side_at v.links e).references → IsBay (stay_at r.links.items e.link)
  bay_held h = bay_unless X (λ l. let z = references_over l in absurd (omega (arith, h, z)))

  pub bay_live : (side_at v.links e).live ≡ true → IsBay (stay_at r.links.items e.link)
  bay_live h = bay_unless X (λ l. let wrong : true ≡ false = sym h ∙ live_over l in cc)

module _ (v : PoolValue) (r : Inside) (is : pool_of r ≡ v) (inv : ArePooled r) (e : SideId) (opened : e.link < v.links.opened) where
  pub bay_open : has_live_side v.links e ≡ true → IsBay (stay_at r.links.items e.link)
  bay_open h = go (side_at v.links e).live refl
    where
      go : (b : Bool) → (side_at v.links e).live ≡ b → IsBay (stay_at r.links.items e.link)
      go true p = bay_live v r is inv e opened p
      go false p = bay_live v r is inv (peer e) opened (ap (λ b. b || (side_at v.links (peer e)).live) (sym p) ∙ h)
