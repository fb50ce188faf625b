-- A link that stands in two lists of links under two numbers: what is changed of it alike in both is alike then.
use Rattle.std.proofs.Common.{◌≡◌, ◌≢◌, ℕ, ◌*◌, ◌/◌, ◌%◌, ◌<◌, Bool, true, false, ◌==◌, List, length, slice_index_or, slice_set, refl}
use Rattle.std.proofs.Common.{sym, ◌∙◌, ap}
use Rattle.std.proofs.Common.{arith, eqb-true, subst}
use Rattle.std.proofs.lemmas.Bool.{eqb-false}
use Rattle.std.proofs.lemmas.List.{ext_get_or, get_or-set_same, get_or-set_other}
use Rattle.token_bucket.specs.declared.limit.Dir.{Dir}
use Rattle.token_bucket.specs.declared.limit.Dir.TheVariants.{Read, Write}
use Rattle.token_bucket.specs.declared.limit.LimitCfg.{LimitCfg}
use Rattle.std.specs.Prelude.{Option, None}
use Rattle.relay_model.specs.Rooms.{most_at_once, mark_or}
use Rattle.ev_types.specs.declared.side.Side.{Side}
use Rattle.ev_types.specs.declared.side.Side.TheVariants.{In, Out}
use Rattle.ev_types.specs.declared.side.SideId.{SideId}
use Rattle.ev_types.specs.Sides.{number, other, peer}
use Rattle.relay_model.specs.Flow.{Flow, no_flow}
use Rattle.relay_model.specs.Moments.{active_at}
use Rattle.relay_model.specs.Plain.{PlainSide, no_side}
use Rattle.relay_state.specs.Passage.{Passage, read_part}
use Rattle.relay_state.specs.Passing.{with_bad}
use Rattle.relay_state.specs.Running.{Gauge, no_gauge, gauge_after, gauge_set}
use Rattle.relay_state.specs.Serving.{flow_given}
use Rattle.relay_state.specs.State.{Lane, no_lane, lane_got, lane_left, lane_lost, lane_taken}
use Rattle.relay_sides.specs.Links.{Links, side_at, flow_at, lane_at, gauge_at, put_side, put_flow, put_lane, put_gauge, change_side}
use Rattle.relay_sides.specs.Links.{change_flow, passage_at, with_passage, bucket_spent, limited, limit_set_on, with_got, after_got}
use Rattle.relay_sides.specs.Links.{after_took, freed, read_mark}
use Rattle.relay_sides.specs.Pairs.{HasPairs}
use Rattle.relay_sides.proofs.BevsLemmas.{number-lt}
use Rattle.relay_pool.proofs.TouchLemmas.{both, Touches, AlikeBeside, touches_side, touches_flow, touches_lane, touches_gauge, touches_then}

abbrev pub side_of : ℕ → Side → SideId
side_of link s = record { link = link; side = s }

-- link `to` of these links is link `from` of those
pub record Image (from to : ℕ) (old new : Links) : Type 0 where
  pub side : (s : Side) → side_at new (side_of to s) ≡ side_at old (side_of from s)
  pub flow : (s : Side) → flow_at new (side_of to s) ≡ flow_at old (side_of from s)
  pub lane : (s : Side) → lane_at new (side_of to s) ≡ lane_at old (side_of from s)
  pub gauge : (s : Side) → gauge_at new (side_of to s) ≡ gauge_at old (side_of from s)
  pub from_pairs : HasPairs old
  pub to_pairs : HasPairs new
  pub from_there : from < old.opened
  pub to_there : to < new.opened

-- Two lists that are alike beside a link and at its two sides

apart : (link : ℕ) (s : Side) → number (side_of link (other s)) ≢ number (side_of link s)
apart link In h = absurd (omega (arith, h))
apart link Out h = absurd (omega (arith, h))

number-of : (n link : ℕ) → n / 2 ≡ link → (b : Bool) → (n % 2 == 0) ≡ b → (P : ℕ → Type 0) →
    ((s : Side) → P (number (side_of link s))) → P n
number-of n link h true e P all = subst P (omega (arith, h, eqb-true (n % 2) 0 e)) (all In)
number-of n link h false e P all = subst P (omega (arith, h, eqb-false (n % 2) 0 e)) (all Out)

same_list : {A : Type 0} (none : A) (link : ℕ) (xs ys zs : List A) → AlikeBeside none link xs ys → AlikeBeside none link xs zs →
    length ys ≡ length zs →
    ((s : Side) → slice_index_or ys (number (side_of link s)) none ≡ slice_index_or zs (number (side_of link s)) none) → ys ≡ zs
same_list none link xs ys zs p q len at = ext_get_or none ys zs len (λ n b. go n (n / 2 == link) refl)
  where
    go : (n : ℕ) (b : Bool) → (n / 2 == link) ≡ b → slice_index_or ys n none ≡ slice_index_or zs n none
    go n true e =
        number-of n link (eqb-true (n / 2) link e) (n % 2 == 0) refl (λ m. slice_index_or ys m none ≡ slice_index_or zs m none) at
    go n false e = let d = eqb-false (n / 2) link e in p n d ∙ sym (q n d)

-- so two links are one that are images of the same, and are beside it as these
pub same_links : (from to : ℕ) (old base a b : Links) → Touches to base a → Touches to base b → Image from to old a → Image from to old b →
    a ≡ b
same_links from to old base a b p q i j =
    let opened = p.opened ∙ sym q.opened in
    let len = λ (n m : ℕ) (x : n ≡ 2 * a.opened) (y : m ≡ 2 * b.opened). x ∙ ap (λ k. 2 * k) opened ∙ sym y in
    let sides = same_list no_side to base.sides a.sides b.sides p.sides q.sides
    (len (length a.sides) (length b.sides) i.to_pairs.sides j.to_pairs.sides) (λ s. i.side s ∙ sym (j.side s)) in
    let flows = same_list no_flow to base.flows a.flows b.flows p.flows q.flows
    (len (length a.flows) (length b.flows) i.to_pairs.flows j.to_pairs.flows) (λ s. i.flow s ∙ sym (j.flow s)) in
    let lanes = same_list no_lane to base.lanes a.lanes b.lanes p.lanes q.lanes
    (len (length a.lanes) (length b.lanes) i.to_pairs.lanes j.to_pairs.lanes) (λ s. i.lane s ∙ sym (j.lane s)) in
    let gauges = same_list no_gauge to base.gauges a.gauges b.gauges p.gauges q.gauges
    (len (length a.gauges) (length b.gauges) i.to_pairs.gauges j.to_pairs.gauges) (λ s. i.gauge s ∙ sym (j.gauge s)) in
    λ k. record { opened = opened k; sides = sides k; flows = flows k; lanes = lanes k; gauges = gauges k }

-- Changes of both

put-both : {A : Type 0} (none x : A) (from to : ℕ) (s : Side) (xs ys : List A) → number (side_of from s) < length xs →
    number (side_of to s) < length ys →
    ((t : Side) → slice_index_or ys (number (side_of to t)) none ≡ slice_index_or xs (number (side_of from t)) none) → (t : Side) →
    slice_index_or (slice_set ys (number (side_of to s)) x) (number (side_of to t)) none
    ≡ slice_index_or (slice_set xs (number (side_of from s)) x) (number (side_of from t)) none
put-both none x from to s xs ys b c h =
    both (λ t. slice_index_or (slice_set ys (number (side_of to s)) x) (number (side_of to t)) none
    ≡ slice_index_or (slice_set xs (number (side_of from s)) x) (number (side_of from t)) none) s
    (get_or-set_same ys (number (side_of to s)) x none c ∙ sym (get_or-set_same xs (number (side_of from s)) x none b))
    (get_or-set_other ys (number (side_of to s)) (number (side_of to (other s))) x none (apart to s)
    ∙ h (other s) ∙ sym (get_or-set_other xs (number (side_of from s)) (number (side_of from (other s))) x none (apart from s)))

module _ (from to : ℕ) (old new : Links) (i : Image from to old new) (s : Side) where
  below : (link count n : ℕ) → link < count → n ≡ 2 * count → number (side_of link s) < n
  below link count n h e = let b = number-lt (side_of link s) count h in omega (arith, b, e)

  pub image_side : (x : PlainSide) → Image from to (put_side (side_of from s) x old) (put_side (side_of to s) x new)
  image_side x = record {
    side = put-both no_side x from to s old.sides new.sides (below from old.opened (length old.sides) i.from_there i.from_pairs.sides)
        (below to new.opened (length new.sides) i.to_there i.to_pairs.sides) i.side;
    flow = i.flow;
    lane = i.lane;
    gauge = i.gauge;
    from_pairs = (touches_side (side_of from s) old x).pairs i.from_pairs;
    to_pairs = (touches_side (side_of to s) new x).pairs i.to_pairs;
    from_there = i.from_there;
    to_there = i.to_there;
  }

  pub image_flow : (x : Flow) → Image from to (put_flow (side_of from s) x old) (put_flow (side_of to s) x new)
  image_flow x = record {
    side = i.side;
    flow = put-both no_flow x from to s old.flows new.flows (below from old.opened (length old.flows) i.from_there i.from_pairs.flows)
        (below to new.opened (length new.flows) i.to_there i.to_pairs.flows) i.flow;
    lane = i.lane;
    gauge = i.gauge;
    from_pairs = (touches_flow (side_of from s) old x).pairs i.from_pairs;
    to_pairs = (touches_flow (side_of to s) new x).pairs i.to_pairs;
    from_there = i.from_there;
    to_there = i.to_there;
  }

  pub image_lane : (x : Lane) → Image from to (put_lane (side_of from s) x old) (put_lane (side_of to s) x new)
  image_lane x = record {
    side = i.side;
    flow = i.flow;
    lane = put-both no_lane x from to s old.lanes new.lanes (below from old.opened (length old.lanes) i.from_there i.from_pairs.lanes)
        (below to new.opened (length new.lanes) i.to_there i.to_pairs.lanes) i.lane;
    gauge = i.gauge;
    from_pairs = (touches_lane (side_of from s) old x).pairs i.from_pairs;
    to_pairs = (touches_lane (side_of to s) new x).pairs i.to_pairs;
    from_there = i.from_there;
    to_there = i.to_there;
  }

  pub image_gauge : (x : Gauge) → Image from to (put_gauge (side_of from s) x old) (put_gauge (side_of to s) x new)
  image_gauge x = record {
    side = i.side;
    flow = i.flow;
    lane = i.lane;
    gauge = put-both no_gauge x from to s old.gauges new.gauges
        (below from old.opened (length old.gauges) i.from_there i.from_pairs.gauges)
        (below to new.opened (length new.gauges) i.to_there i.to_pairs.gauges) i.gauge;
    from_pairs = (touches_gauge (side_of from s) old x).pairs i.from_pairs;
    to_pairs = (touches_gauge (side_of to s) new x).pairs i.to_pairs;
    from_there = i.from_there;
    to_there = i.to_there;
  }

  pub image_passage : passage_at new (side_of to s) ≡ passage_at old (side_of from s)
  image_passage = λ k. record {
    flow = i.flow s k;
    lane = i.lane s k;
    from_bad = (i.side s k).bad;
    to_bad = (i.side (other s) k).bad;
  }

-- The changes that the calls make of a side e of one and of the same side of the other

module _ (from to : ℕ) (old new : Links) (i : Image from to old new) (s : Side) where
  pub image_change : (f : PlainSide → PlainSide) →
      Image from to (change_side (side_of from s) f old) (change_side (side_of to s) f new)
  image_change f =
      subst (λ (x : PlainSide). Image from to (put_side (side_of from s) (f x) old) (change_side (side_of to s) f new)) (i.side s)
      (image_side from to old new i s (f (side_at new (side_of to s))))

  pub image_change_flow : (f : Flow → Flow) →
      Image from to (change_flow (side_of from s) f old) (change_flow (side_of to s) f new)
  image_change_flow f =
      subst (λ (x : Flow). Image from to (put_flow (side_of from s) (f x) old) (change_flow (side_of to s) f new)) (i.flow s)
      (image_flow from to old new i s (f (flow_at new (side_of to s))))

  pub image_change_lane : (f : Lane → Lane) →
      Image from to (put_lane (side_of from s) (f (lane_at old (side_of from s))) old)
      (put_lane (side_of to s) (f (lane_at new (side_of to s))) new)
  image_change_lane f =
      subst (λ (x : Lane). Image from to (put_lane (side_of from s) (f x) old)
      (put_lane (side_of to s) (f (lane_at new (side_of to s))) new)) (i.lane s)
      (image_lane from to old new i s (f (lane_at new (side_of to s))))

  pub image_spent : (time : ℕ) (d : Dir) (n : ℕ) →
      Image from to (bucket_spent time (side_of from s) d n old) (bucket_spent time (side_of to s) d n new)
  image_spent time d n =
      subst (λ (z : Gauge). Image from to (put_gauge (side_of from s) z old) (bucket_spent time (side_of to s) d n new))
      (λ k. gauge_after (i.side s k).limit time d n (i.gauge s k))
      (image_gauge from to old new i s (gauge_after (side_at new (side_of to s)).limit time d n (gauge_at new (side_of to s))))

module _ (from to : ℕ) (old new : Links) (i : Image from to old new) (s : Side) where
  -- another limit
  pub image_limited : (time turn : ℕ) (cfg : Option LimitCfg) →
      Image from to (limited time turn (side_of from s) cfg old) (limited time turn (side_of to s) cfg new)
  image_limited time turn cfg =
      let f = λ (g : Gauge) (x : PlainSide). record x { limit = limit_set_on g time turn x.limit cfg } in
      let a = image_change from to old new i s (f (gauge_at new (side_of to s))) in
      let b = subst (λ (g : Gauge). Image from to (change_side (side_of from s) (f g) old)
      (change_side (side_of to s) (f (gauge_at new (side_of to s))) new)) (i.gauge s) a in
      subst (λ (z : Gauge). Image from to (put_gauge (side_of from s) z (change_side (side_of from s) (f (gauge_at old (side_of from s)))
      old))
      (limited time turn (side_of to s) cfg new)) (λ k. gauge_set (i.side s k).limit cfg time (i.gauge s k))
      (image_gauge from to (change_side (side_of from s) (f (gauge_at old (side_of from s))) old)
      (change_side (side_of to s) (f (gauge_at new (side_of to s))) new) b s
      (gauge_set (side_at new (side_of to s)).limit cfg time (gauge_at new (side_of to s))))

  -- another passage
  pub image_with : (x : Passage) → Image from to (with_passage (side_of from s) x old) (with_passage (side_of to s) x new)
  image_with x =
      let o1 : Links = put_flow (side_of from s) x.flow old in
      let n1 : Links = put_flow (side_of to s) x.flow new in
      let o2 : Links = change_side (side_of from s) (with_bad x.from_bad) o1 in
      let n2 : Links = change_side (side_of to s) (with_bad x.from_bad) n1 in
      let o3 : Links = change_side (side_of from (other s)) (with_bad x.to_bad) o2 in
      let n3 : Links = change_side (side_of to (other s)) (with_bad x.to_bad) n2 in
      let i1 = image_flow from to old new i s x.flow in
      let i2 = image_change from to o1 n1 i1 s (with_bad x.from_bad) in
      let i3 = image_change from to o2 n2 i2 (other s) (with_bad x.to_bad) in
      image_lane from to o3 n3 i3 s x.lane

  pub image_took : (time n : ℕ) → Image from to (after_took time (side_of from s) n old) (after_took time (side_of to s) n new)
  image_took time n =
      let o1 : Links = change_flow (side_of from (other s)) (flow_given n) old in
      let n1 : Links = change_flow (side_of to (other s)) (flow_given n) new in
      let o2 : Links = change_side (side_of from s) (active_at time Write) o1 in
      let n2 : Links = change_side (side_of to s) (active_at time Write) n1 in
      let i1 = image_change_flow from to old new i (other s) (flow_given n) in
      let i2 = image_change from to o1 n1 i1 s (active_at time Write) in
      image_change_lane from to o2 n2 i2 (other s) (lane_taken n)

  pub image_freed : Image from to (freed (side_of from s) old) (freed (side_of to s) new)
  image_freed =
      let f = λ (x : PlainSide). record x { live = false; group = None } in
      let o1 : Links = change_side (side_of from s) f old in
      let n1 : Links = change_side (side_of to s) f new in
      let o2 : Links = put_lane (side_of from s) (lane_left (lane_at o1 (side_of from s))) o1 in
      let n2 : Links = put_lane (side_of to s) (lane_left (lane_at n1 (side_of to s))) n1 in
      let i1 = image_change from to old new i s f in
      let i2 = image_change_lane from to o1 n1 i1 s lane_left in
      image_change_lane from to o2 n2 i2 (other s) lane_lost

  image_with_got : (time : ℕ) (bytes : List ℕ) →
      Image from to (with_got time (side_of from s) bytes old) (with_got time (side_of to s) bytes new)
  image_with_got time bytes =
      let i1 = image_change from to old new i s (active_at time Read) in
      image_change_lane from to (change_side (side_of from s) (active_at time Read) old)
      (change_side (side_of to s) (active_at time Read) new) i1 s (lane_got bytes)

module _ (from to : ℕ) (old new : Links) (i : Image from to old new) (s : Side) where
  pub image_got : (time : ℕ) (bytes : List ℕ) →
      Image from to (after_got time (side_of from s) bytes old) (after_got time (side_of to s) bytes new)
  image_got time bytes =
      let o1 : Links = with_got time (side_of from s) bytes old in
      let n1 : Links = with_got time (side_of to s) bytes new in
      let i1 = image_with_got from to old new i s time bytes in
      let e = side_of to s in
      subst (λ (x : Passage). Image from to (with_passage (side_of from s) x o1) (after_got time e bytes new))
      (λ k. read_part (mark_or (i1.side s k).marks.read_high most_at_once) false (image_passage from to o1 n1 i1 s k))
      (image_with from to o1 n1 i1 s (read_part (read_mark n1 e) false (passage_at n1 e)))

-- and they touch no other link

module _ (e : SideId) (k : Links) where
  pub touches_change : (f : PlainSide → PlainSide) → Touches e.link k (change_side e f k)
  touches_change f = touches_side e k (f (side_at k e))

  pub touches_spent : (time : ℕ) (d : Dir) (n : ℕ) → Touches e.link k (bucket_spent time e d n k)
  touches_spent time d n = touches_gauge e k (gauge_after (side_at k e).limit time d n (gauge_at k e))

  pub touches_limited : (time turn : ℕ) (cfg : Option LimitCfg) → Touches e.link k (limited time turn e cfg k)
  touches_limited time turn cfg =
      let x = record (side_at k e) { limit = limit_set_on (gauge_at k e) time turn (side_at k e).limit cfg } in
      let g = gauge_set (side_at k e).limit cfg time (gauge_at k e) in
      touches_then e.link k (put_side e x k) (limited time turn e cfg k) (touches_side e k x) (touches_gauge e (put_side e x k) g)

  pub touches_with : (x : Passage) → Touches e.link k (with_passage e x k)
  touches_with x =
      let k1 : Links = put_flow e x.flow k in
      let k2 : Links = change_side e (with_bad x.from_bad) k1 in
      let k3 : Links = change_side (peer e) (with_bad x.to_bad) k2 in
      let a = touches_then e.link k k1 k2 (touches_flow e k x.flow) (touches_side e k1 (with_bad x.from_bad (side_at k1 e))) in
      let b = touches_then e.link k k2 k3 a (touches_side (peer e) k2 (with_bad x.to_bad (side_at k2 (peer e)))) in
      touches_then e.link k k3 (with_passage e x k) b (touches_lane e k3 x.lane)

  pub touches_took : (time n : ℕ) → Touches e.link k (after_took time e n k)
  touches_took time n =
      let k1 : Links = change_flow (peer e) (flow_given n) k in
      let k2 : Links = change_side e (active_at time Write) k1 in
      let a = touches_then e.link k k1 k2 (touches_flow (peer e) k (flow_given n (flow_at k (peer e))))
      (touches_side e k1 (active_at time Write (side_at k1 e))) in
      touches_then e.link k k2 (after_took time e n k) a (touches_lane (peer e) k2 (lane_taken n (lane_at k (peer e))))

  pub touches_freed : Touches e.link k (freed e k)
  touches_freed =
      let x = (let z = side_at k e in record z { live = false; group = None }) in
      let k1 : Links = put_side e x k in
      let k2 : Links = put_lane e (lane_left (lane_at k e)) k1 in
      let a = touches_then e.link k k1 k2 (touches_side e k x) (touches_lane e k1 (lane_left (lane_at k e))) in
      touches_then e.link k k2 (freed e k) a (touches_lane (peer e) k2 (lane_lost (lane_at k2 (peer e))))

  touches_with_got : (time : ℕ) (bytes : List ℕ) → Touches e.link k (with_got time e bytes k)
  touches_with_got time bytes =
      let k1 : Links = change_side e (active_at time Read) k in
      touches_then e.link k k1 (with_got time e bytes k) (touches_side e k (active_at time Read (side_at k e)))
      (touches_lane e k1 (lane_got bytes (lane_at k e)))

pub touches_got : (e : SideId) (k : Links) (time : ℕ) (bytes : List ℕ) → Touches e.link k (after_got time e bytes k)
touches_got e k time bytes =
    let j : Links = with_got time e bytes k in
    touches_then e.link k j (after_got time e bytes k) (touches_with_got e k time bytes)
    (touches_with e j (read_part (read_mark j e) false (passage_at j e)))
