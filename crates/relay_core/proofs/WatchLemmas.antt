-- Which links are watched stays right: a link is watched where a side of it may begin to wait for a moment, and the other sides are as
-- they were.
use Rattle.std.specs.Prelude.{slice_index_or, slice_set, if◌then◌else◌, is_some}
use Rattle.std.proofs.Common.{◌≡◌, ◌≢◌, ℕ, zero, suc, ◌+◌, ◌*◌, ◌<◌, ◌≤◌, ◌==◌, Bool, true, false, ◌&&◌, not, nat_le, nat_eq}
use Rattle.std.proofs.Common.{List, [], ◌∷◌, ◌++◌, length, Option, Some, None, Result, Ok, Err, MatchResult, inl, inr, refl, sym, ◌∙◌, ap}
use Rattle.std.proofs.Common.{subst, arith}
use Rattle.std.proofs.lemmas.Bool.{cases_lt}
use Rattle.std.proofs.lemmas.Bool.Decides.{eqb_tells}
use Rattle.std.proofs.lemmas.List.{get_or-set_other, get_or_append_left}
use Rattle.std.specs.Map.{remove_entry}
use Rattle.token_bucket.specs.declared.limit.Dir.{Dir}
use Rattle.token_bucket.specs.declared.limit.Dir.TheVariants as dir
use Rattle.ev_types.specs.declared.side.Side.{Side}
use Rattle.ev_types.specs.declared.side.Side.TheVariants.{In, Out}
use Rattle.ev_types.specs.declared.side.SideId.{SideId}
use Rattle.ev_types.specs.Sides.{number, peer, other, half}
use Rattle.next_moments.specs.Earliest.{moment_for, NoneIsDue}
use Rattle.number_set.specs.Numbers.{NumberSetValue}
use Rattle.rate_group.specs.GroupValue.{GroupsValue}
use Rattle.rate_group.specs.Steps.{group_of, joined}
use Rattle.relay_model.specs.Plain.{PlainSide, Standing, no_side}
use Rattle.relay_model.specs.Asks.{enabled}
use Rattle.relay_model.specs.Moments.{active_at}
use Rattle.relay_model.proofs.PlainLemmas.{half-below}
use Rattle.relay_state.specs.Closing.{in_side, out_side}
use Rattle.relay_state.specs.State.{State}
use Rattle.relay_state.specs.Passage.{Passage, read_part}
use Rattle.relay_state.specs.Passing.{with_bad}
use Rattle.relay_state.specs.Opening.{joined_where}
use Rattle.relay_state.specs.Running.{Gauge, no_gauge, gauge_after}
use Rattle.relay_sides.specs.Links as links
use Rattle.relay_sides.specs.Links.{Links, change_side, with_link}
use Rattle.relay_sides.specs.LinkPasses.{PassedLink, PartlyPassedLink}
use Rattle.relay_sides.specs.declared.opening.NewSide.{NewSide}
use Rattle.relay_pool.specs.PoolValue.{PoolValue}
use Rattle.relay_core.specs.RelayView.{IsSound, IsSoundSide}
use Rattle.relay_core.specs.declared.ctl.Ctl.TheInside.{Inside}
use Rattle.relay_core.proofs.RelayLemmas.{still_sound}
use Rattle.relay_sides.specs.KeptLimits.{limit_gains}
use Rattle.resting_links.specs.RestingValue.{RestingValue, side_moment, HasPlaces, Wakes, Rests, Lengthens}
use Rattle.relay_core.specs.Timeless.{left_by, AreForgotten, AreOut, IsResting, IsWatching, IsGrouping, is_still_link}
use Rattle.relay_core.proofs.GainLemmas.{IsAhead, gains-later}
use Rattle.relay_core.proofs.HaltLemmas.{left-keeps, joined-keeps, joined_where-keeps}

-- Sides

-- what decides whether a side waits for a moment is as it was
pub record IsAlike (x y : PlainSide) : Type 0 where
  pub live : y.live ≡ x.live
  pub timeouts : y.timeouts ≡ x.timeouts
  pub expired : y.expired ≡ x.expired
  pub limit : y.limit ≡ x.limit

pub alike : (x : PlainSide) → IsAlike x x
alike x = record { live = refl; timeouts = refl; expired = refl; limit = refl }

-- then it waits for the same moment
resting-alike : (m : Option ℕ) (time : ℕ) (x y : PlainSide) (g : Gauge) → IsAlike x y → IsResting m time x g → IsResting m time y g
resting-alike m time x y g a h = record {
  reads = (λ i. a.live i && nat_le 1 (a.timeouts i).read_ms) ∙ h.reads;
  writes = (λ i. a.live i && nat_le 1 (a.timeouts i).write_ms) ∙ h.writes;
  unexpired = (λ i. a.live i && a.expired i) ∙ h.unexpired;
  gains = h.gains ∙ sym (λ i. if a.live i then limit_gains time g (a.limit i) else []);
}

pub alike-enabled : (d : Dir) (on : Bool) (x : PlainSide) → IsAlike x (enabled d on x)
alike-enabled dir.Read on x = record { live = refl; timeouts = refl; expired = refl; limit = refl }
alike-enabled dir.Write on x = record { live = refl; timeouts = refl; expired = refl; limit = refl }

pub alike-active : (time : ℕ) (d : Dir) (x : PlainSide) → IsAlike x (active_at time d x)
alike-active time dir.Read x = record { live = refl; timeouts = refl; expired = refl; limit = refl }
alike-active time dir.Write x = record { live = refl; timeouts = refl; expired = refl; limit = refl }

-- one of a list is replaced, and what is so of each with a number is so still
set-keeps : {A : Type 0} (P : A → Type 0) (usual : A) (xs : List A) (j i : ℕ) (x : A) →
    (i ≡ j → P (slice_index_or xs j usual) → P x) → P (slice_index_or xs i usual) → P (slice_index_or (slice_set xs j x) i usual)
set-keeps P usual [] j i x h p = p
set-keeps P usual (y ∷ ys) zero zero x h p = h refl p
set-keeps P usual (y ∷ ys) zero (suc i) x h p = p
set-keeps P usual (y ∷ ys) (suc j) zero x h p = p
set-keeps P usual (y ∷ ys) (suc j) (suc i) x h p = set-keeps P usual ys j i x (λ e. h (ap suc e)) p

-- sides of different links have different numbers
pub numbers-differ : (e z : SideId) → z.link ≢ e.link → number z ≢ number e
numbers-differ e z other same = omega (arith, same, other, half-below e.side, half-below z.side)

-- Time

-- the same of the same
resting-parts : (m : Option ℕ) (time : ℕ) {x y : PlainSide} {g h : Gauge} → x ≡ y → g ≡ h → IsResting m time x g → IsResting m time y h
resting-parts m time {y = y} {g = g} a b p = subst (λ z. IsResting m time y z) b (subst (λ z. IsResting m time z g) a p)

-- and it waits for that as long as it has not come
resting-later : (m : Option ℕ) (a b : ℕ) (x : PlainSide) (g : Gauge) → a ≤ b → IsAhead m b → IsResting m a x g → IsResting m b x g
resting-later m a b x g le ahead h = record {
  reads = h.reads;
  writes = h.writes;
  unexpired = h.unexpired;
  gains = gains-later m a b x g le ahead h.gains;
}

-- Whether the watched links are right

pub wakes-none : (w : RestingValue) → Wakes w w
wakes-none w = record { len = refl; places = refl; grew = λ n out. out; kept = λ e out. refl; none = λ i is. is }

pub wakes-then : {w v u : RestingValue} → Wakes w v → Wakes v u → Wakes w u
wakes-then a b = record {
  len = b.len ∙ a.len;
  places = b.places ∙ a.places;
  grew = λ n out. a.grew n (b.grew n out);
  kept = λ e out. b.kept e out ∙ a.kept e (b.grew e.link out);
  none = λ i is. b.none i (a.none i is);
}

module _ (w : RestingValue) (time : ℕ) (k : Links) (h : IsWatching w time k) where
  -- Sides or buckets changed at one side alone, which stays as it is, or whose link is watched.
  watching-at : (v : RestingValue) (j : Links) → Wakes w v → j.opened ≡ k.opened →
      ((e : SideId) → e.link < k.opened → v.watched.has e.link ≡ false → (m : Option ℕ) →
      IsResting m time (links.side_at k e) (links.gauge_at k e) →
      IsResting m time (links.side_at j e) (links.gauge_at j e)) → IsWatching v time j
  watching-at v j more opened each = record {
    covers = let covers = h.covers in let len = more.len in omega (arith, len, opened, covers);
    places = let places = h.places in let len = more.places in omega (arith, len, opened, places);
    absent = λ i past. more.none i (h.absent i (omega (arith, opened, past)));
    beside = λ e below out.
        let under = subst (λ n. e.link < n) opened below in
        subst (λ m. IsResting m time (links.side_at j e) (links.gauge_at j e)) (sym (more.kept e out))
        (each e under out (side_moment w e) (h.beside e under (more.grew e.link out)));
  }

  -- more links are watched
  pub watching-woken : (v : RestingValue) → Wakes w v → IsWatching v time k
  watching-woken v more = watching-at v k more refl (λ e under out m p. p)

  -- a side changed, and not in what decides
  pub watching-alike : (j : Links) (e : SideId) (y : PlainSide) → j.sides ≡ slice_set k.sides (number e) y →
      IsAlike (links.side_at k e) y → j.gauges ≡ k.gauges → j.opened ≡ k.opened → IsWatching w time j
  watching-alike j e y sides like gauges opened =
      watching-at w j (wakes-none w) opened (λ z under out m p.
      let P : PlainSide → Type 0 = λ u. IsResting m time u (links.gauge_at k z) in
      let moved : P (links.side_at j z) = subst (λ xs. P (slice_index_or xs (number z) no_side)) (sym sides)
      (set-keeps P no_side k.sides (number e) (number z) y
      (λ same q. resting-alike m time (links.side_at k e) y (links.gauge_at k z) like q) p) in
      subst (λ xs. IsResting m time (links.side_at j z) (slice_index_or xs (number z) no_gauge))
      (sym gauges) moved)

  -- with one side changed so by a function
  pub watching-changed : (j : Links) (e : SideId) (f : PlainSide → PlainSide) → j ≡ change_side e f k →
      ((x : PlainSide) → IsAlike x (f x)) → IsWatching w time j
  watching-changed j e f is like =
      watching-alike j e (f (links.side_at k e)) (ap (λ (z : Links). z.sides) is) (like (links.side_at k e))
      (ap (λ (z : Links). z.gauges) is) (ap (λ (z : Links). z.opened) is)

  -- A link became watched: whatever became of one side of it
  pub watching-more : (v : RestingValue) (j : Links) (e : SideId) (y : PlainSide) (g : Gauge) →
      Wakes w v → v.watched.has e.link ≡ true →
      j.sides ≡ slice_set k.sides (number e) y → j.gauges ≡ slice_set k.gauges (number e) g → j.opened ≡ k.opened → IsWatching v time j
  watching-more v j e y g more there sides gauges opened =
      watching-at v j more opened (λ z under out m p.
      let other : z.link ≢ e.link = (λ same. absurd (let t : true ≡ false = sym there ∙ ap v.watched.has (sym same) ∙ out in cc)) in
      let differ = numbers-differ e z other in
      let side : links.side_at j z ≡ links.side_at k z = ap (λ xs. slice_index_or xs (number z) no_side) sides
      ∙ get_or-set_other k.sides (number e) (number z) y no_side differ in
      let gauge : links.gauge_at j z ≡ links.gauge_at k z = ap (λ xs. slice_index_or xs (number z) no_gauge) gauges
      ∙ get_or-set_other k.gauges (number e) (number z) g no_gauge differ in
      resting-parts m time (sym side) (sym gauge) p)

  -- Bytes were moved at a side, whose link is watched if the side is live and has a limit.
  pub watching-spent : (v : RestingValue) (j : Links) (e : SideId) (d : Dir) (n : ℕ) (limited : Bool) →
      Wakes w v → (limited ≡ true → v.watched.has e.link ≡ true) →
      limited ≡ ((links.side_at k e).live && is_some (links.allowance_at time k e d)) →
      j ≡ links.bucket_spent time e d n k → IsWatching v time j
  watching-spent v j e d n limited more there told is =
      watching-at v j more (ap (λ (z : Links). z.opened) is) (λ z under out m p.
      let after = gauge_after (links.side_at k e).limit time d n (links.gauge_at k e) in
      let gauges : j.gauges ≡ slice_set k.gauges (number e) after = ap (λ (l : Links). l.gauges) is in
      let side : links.side_at j z ≡ links.side_at k z = ap (λ (l : Links). slice_index_or l.sides (number z) no_side) is in
      resting-parts m time (sym side) (ap (λ xs. slice_index_or xs (number z) no_gauge) (sym gauges))
      (set-keeps (IsResting m time (links.side_at k z)) no_gauge k.gauges (number e) (number z) after
      (λ same q.
      let own : links.side_at k z ≡ links.side_at k e = ap (λ i. slice_index_or k.sides i no_side) same in
      let here : z.link ≡ e.link = omega (arith, same, half-below e.side, half-below z.side) in
      let free = sym told ∙ not_limited limited there (ap v.watched.has (sym here) ∙ out) in
      resting-parts m time (sym own) refl
      (resting-spent m (links.side_at k e) (links.gauge_at k e) d n free (resting-parts m time own refl q))) p))
    where
      -- a dead side gains nothing, and one without a limit spends nothing
      gains-spent : (live : Bool) (l : Option Standing) (g : Gauge) (d : Dir) (n : ℕ) → (live && is_some (left_by l g d time)) ≡ false →
          (if live then limit_gains time g l else []) ≡ (if live then limit_gains time (gauge_after l time d n g) l else [])
      gains-spent false l g d n none = refl
      gains-spent true None g d n none = refl
      gains-spent true (Some y) g d n none = absurd (let wrong : true ≡ false = none in cc)

      resting-spent : (m : Option ℕ) (x : PlainSide) (g : Gauge) (d : Dir) (n : ℕ) →
          (x.live && is_some (left_by x.limit g d time)) ≡ false →
          IsResting m time x g → IsResting m time x (gauge_after x.limit time d n g)
      resting-spent m x g d n free p = record {
        reads = p.reads;
        writes = p.writes;
        unexpired = p.unexpired;
        gains = p.gains ∙ gains-spent x.live x.limit g d n free;
      }

      not_limited : (b : Bool) → (b ≡ true → v.watched.has e.link ≡ true) → v.watched.has e.link ≡ false → b ≡ false
      not_limited false there out = refl
      not_limited true there out = absurd (let wrong : true ≡ false = sym (there refl) ∙ out in cc)

  -- it is later, and no moment has come
  pub watching-later : (to : ℕ) → time ≤ to → NoneIsDue w.moments to → IsWatching w to k
  watching-later to le none_due = record {
    covers = h.covers;
    places = h.places;
    absent = h.absent;
    beside = λ e below out.
        resting-later (side_moment w e) time to (links.side_at k e) (links.gauge_at k e) le (none_due (number e))
        (h.beside e below out);
  }

  -- a direction was passed
  pub watching-passage : (j : Links) (e : SideId) (q : Passage) → j ≡ links.with_passage e q k → IsWatching w time j
  watching-passage j e q is = watching-two j (ap (λ (z : Links). z.sides) is) (ap (λ (z : Links). z.gauges) is)
      (ap (λ (z : Links). z.opened) is)
    where
      mid : Links
      mid = change_side e (with_bad q.from_bad) k

      watching-two : (j : Links) → j.sides ≡ (change_side (peer e) (with_bad q.to_bad) mid).sides → j.gauges ≡ k.gauges →
          j.opened ≡ k.opened → IsWatching w time j
      watching-two j sides gauges opened =
          watching-at w j (wakes-none w) opened (λ z below out m p.
          let g : Gauge = links.gauge_at k z in
          let P : PlainSide → Type 0 = λ y. IsResting m time y g in
          let bad = λ (y : PlainSide) (b : Option ℕ) (p : P y). resting-alike m time y (with_bad b y) g
          (record { live = refl; timeouts = refl; expired = refl; limit = refl }) p in
          let one = set-keeps P no_side k.sides (number e) (number z) (with_bad q.from_bad (links.side_at k e))
          (λ same p. bad (links.side_at k e) q.from_bad p) p in
          let two = set-keeps P no_side mid.sides (number (peer e)) (number z) (with_bad q.to_bad (links.side_at mid (peer e)))
          (λ same p. bad (links.side_at mid (peer e)) q.to_bad p) one in
          resting-parts m time (ap (λ xs. slice_index_or xs (number z) no_side) (sym sides))
          (ap (λ xs. slice_index_or xs (number z) no_gauge) (sym gauges)) two)

  -- there are more places
  pub watching-wider : (v : RestingValue) → Lengthens w v → IsWatching v time k
  watching-wider v more = record {
    covers = let covers = h.covers in let len = more.len in omega (arith, covers, len);
    places = let places = h.places in let len = more.places in omega (arith, places, len);
    absent = λ i past. more.moments i ∙ h.absent i past;
    beside = λ e below out.
        subst (λ m. IsResting m time (links.side_at k e) (links.gauge_at k e)) (sym (more.moments (number e)))
        (h.beside e below (sym (more.has e.link) ∙ out));
  }

  -- a link is watched no more whose sides wait for the moments that they get
  pub watching-fewer : (v : RestingValue) (near : SideId) (a b : Option ℕ) → near.side ≡ In → near.link < k.opened →
      Rests near.link a b w v →
      IsResting a time (links.side_at k near) (links.gauge_at k near) →
      IsResting b time (links.side_at k (peer near)) (links.gauge_at k (peer near)) →
      IsWatching v time k
  watching-fewer v near a b is below rest first second = record {
    covers = let covers = h.covers in let len = rest.len in omega (arith, covers, len);
    places = let places = h.places in let len = rest.places in omega (arith, places, len);
    absent = λ i past. rest.kept i (omega (arith, past, below)) (omega (arith, past, below)) ∙ h.absent i past;
    beside = λ e under out. elim (eqb_tells e.link near.link) [
      | inl here ↦ own e here.1 e.side refl
      | inr other ↦
          subst (λ m. IsResting m time (links.side_at k e) (links.gauge_at k e))
          (sym (rest.kept (number e) (away e other.1) (away-far e other.1)))
          (h.beside e under (sym (ap (λ b. if b then false else w.watched.has e.link) other.0) ∙ sym (rest.has e.link) ∙ out))
    ];
  }
    where
      away : (e : SideId) → e.link ≢ near.link → number e ≢ 2 * near.link
      away e other same = let low = half-below e.side in other (omega (arith, same, low))

      away-far : (e : SideId) → e.link ≢ near.link → number e ≢ 2 * near.link + 1
      away-far e other same = let low = half-below e.side in other (omega (arith, same, low))

      at : (m : Option ℕ) (u v : SideId) → u ≡ v → IsResting m time (links.side_at k u) (links.gauge_at k u) →
          IsResting m time (links.side_at k v) (links.gauge_at k v)
      at m u v e p = subst (λ z. IsResting m time (links.side_at k z) (links.gauge_at k z)) e p

      own : (e : SideId) → e.link ≡ near.link → (u : Side) → e.side ≡ u →
          IsResting (side_moment v e) time (links.side_at k e) (links.gauge_at k e)
      own e here In side =
          let same : near ≡ e = (λ i. record { link = sym here i; side = (is ∙ sym side) i }) in
          let place : number e ≡ 2 * near.link = (let p = ap half side in omega (arith, here, p)) in
          subst (λ m. IsResting m time (links.side_at k e) (links.gauge_at k e))
          (sym (ap (moment_for v.moments) place ∙ rest.near)) (at a near e same first)
      own e here Out side =
          let same : peer near ≡ e = (λ i. record { link = sym here i; side = (ap other is ∙ sym side) i }) in
          let place : number e ≡ 2 * near.link + 1 = (let p = ap half side in omega (arith, here, p)) in
          subst (λ m. IsResting m time (links.side_at k e) (links.gauge_at k e))
          (sym (ap (moment_for v.moments) place ∙ rest.far)) (at b (peer near) e same second)

-- bytes were got
pub watching-got : (w : RestingValue) (time : ℕ) (k j : Links) (e : SideId) (bytes : List ℕ) →
    IsWatching w time k → j ≡ links.after_got time e bytes k → IsWatching w time j
watching-got w time k j e bytes h is =
    let grown : Links = links.with_got time e bytes k in
    let mid = watching-alike w time k h grown e (active_at time dir.Read (links.side_at k e)) refl
    (alike-active time dir.Read (links.side_at k e)) refl refl in
    watching-passage w time grown mid j e (read_part (links.read_mark grown e) false (links.passage_at grown e)) is

-- bytes were taken
pub watching-took : (w : RestingValue) (time : ℕ) (k j : Links) (e : SideId) (n : ℕ) →
    IsWatching w time k → j ≡ links.after_took time e n k → IsWatching w time j
watching-took w time k j e n h is =
    watching-alike w time k h j e (active_at time dir.Write (links.side_at k e)) (ap (λ (z : Links). z.sides) is)
    (alike-active time dir.Write (links.side_at k e)) (ap (λ (z : Links). z.gauges) is) (ap (λ (z : Links). z.opened) is)

-- Members

pub grouping-at : (g : NumberSetValue) (n m : ℕ) (members : List (ℕ × ℕ)) → m ≡ n → IsGrouping g n members → IsGrouping g m members
grouping-at g n m members is h = subst (λ i. IsGrouping g i members) (sym is) h

pub grouping-passed : (g : NumberSetValue) (members : List (ℕ × ℕ)) (hold : ℕ) (k j : Links) (link : ℕ) (E : Type 0)
    (result : Result Bool E) → IsGrouping g k.opened members →
    MatchResult result (λ changed. PassedLink hold k link changed j) (λ _. PartlyPassedLink hold k link j) → IsGrouping g j.opened members
grouping-passed g members hold k j link E (Ok a) h p =
    grouping-at g k.opened j.opened members (ap (λ (z : Links). z.opened) p.2.2 ∙ ap (λ (z : Links). z.opened) p.1.2) h
grouping-passed g members hold k j link E (Err a) h p = elim p [
  | inl q ↦ grouping-at g k.opened j.opened members (ap (λ (z : Links). z.opened) q.2) h
  | inr q ↦ grouping-at g k.opened j.opened members (ap (λ (z : Links). z.opened) q.2.2 ∙ ap (λ (z : Links). z.opened) q.1.2) h
]

-- both directions of a link were passed
pub watching-passed : (w : RestingValue) (time : ℕ) (hold : ℕ) (k j : Links) (link : ℕ) (E : Type 0) (result : Result Bool E) →
    IsWatching w time k →
    MatchResult result (λ changed. PassedLink hold k link changed j) (λ _. PartlyPassedLink hold k link j) → IsWatching w time j
watching-passed w time hold k j link E (Ok a) h p =
    watching-passage w time p.0 (watching-passage w time k h p.0 (in_side link) p.1.0 p.1.2) j (out_side link) p.2.0 p.2.2
watching-passed w time hold k j link E (Err a) h p = elim p [
  | inl q ↦ watching-passage w time k h j (in_side link) q.0 q.2
  | inr q ↦ watching-passage w time q.0 (watching-passage w time k h q.0 (in_side link) q.1.0 q.1.2) j (out_side link) q.2.0 q.2.2
]

-- a side left its group
pub grouping-left : (g : NumberSetValue) (n : ℕ) (member : ℕ) (members new : List (ℕ × ℕ)) → new ≡ remove_entry (nat_eq member) members →
    IsGrouping g n members → IsGrouping g n new
grouping-left g n member members new is h = record {
  covers = h.covers;
  beside = λ e below out. ap (group_of (number e)) is ∙ left-keeps (number e) member members (h.beside e below out);
}

-- a side joined one, and its link is among those with members
pub grouping-joined : (g new : NumberSetValue) (n : ℕ) (e : SideId) (group : ℕ) (x y : GroupsValue) → y ≡ joined group (number e) x →
    ((m : ℕ) → new.has m ≡ (if m == e.link then true else g.has m)) → new.len ≡ g.len →
    IsGrouping g n x.members → IsGrouping new n y.members
grouping-joined g new n e group x y is has len h = record {
  covers = let covers = h.covers in omega (arith, covers, len);
  beside = λ z below out. elim (eqb_tells z.link e.link) [
    | inl here ↦ absurd (let t : true ≡ false = sym (ap (λ c. if c then true else g.has z.link) here.0) ∙ sym (has z.link) ∙ out in cc)
    | inr other ↦
        ap (λ (l : GroupsValue). group_of (number z) l.members) is
        ∙ joined-keeps (number z) (number e) group x (numbers-differ e z other.1)
        (h.beside z below (sym (ap (λ c. if c then true else g.has z.link) other.0) ∙ sym (has z.link) ∙ out))
  ];
}

-- a link was opened, which is among those with members
pub grouping-opened : (g new : NumberSetValue) (n m : ℕ) (a b : SideId) (first second : Option ℕ) (x y z : GroupsValue) → m ≡ n + 1 →
    n + 1 ≤ g.len → a.link ≡ n → b.link ≡ n → y ≡ joined_where first a x → z ≡ joined_where second b y →
    ((i : ℕ) → new.has i ≡ (if i == n then true else g.has i)) → new.len ≡ g.len → IsGrouping g n x.members → IsGrouping new m z.members
grouping-opened g new n m a b first second x y z count room at_a at_b one two has len h = record {
  covers = omega (arith, room, len, count);
  beside = λ e below out. elim (eqb_tells e.link n) [
    | inl here ↦ absurd (let t : true ≡ false = sym (ap (λ c. if c then true else g.has e.link) here.0) ∙ sym (has e.link) ∙ out in cc)
    | inr old ↦
        let none = h.beside e (let other = old.1 in omega (arith, below, count, other))
        (sym (ap (λ c. if c then true else g.has e.link) old.0) ∙ sym (has e.link) ∙ out) in
        ap (λ (l : GroupsValue). group_of (number e) l.members) two
        ∙ joined_where-keeps second b (number e) y (numbers-differ b e (λ q. old.1 (q ∙ at_b)))
        (ap (λ (l : GroupsValue). group_of (number e) l.members) one
        ∙ joined_where-keeps first a (number e) x (numbers-differ a e (λ q. old.1 (q ∙ at_a))) none)
  ];
}

pub grouping-wider : (g new : NumberSetValue) (n : ℕ) (members : List (ℕ × ℕ)) → g.len ≤ new.len → ((i : ℕ) → new.has i ≡ g.has i) →
    IsGrouping g n members → IsGrouping new n members
grouping-wider g new n members len has h = record {
  covers = let covers = h.covers in omega (arith, covers, len);
  beside = λ e below out. h.beside e below (sym (has e.link) ∙ out);
}

-- a link is taken out whose sides are in no group
pub grouping-fewer : (g new : NumberSetValue) (n : ℕ) (near : SideId) (members : List (ℕ × ℕ)) → new.len ≡ g.len →
    ((i : ℕ) → new.has i ≡ (if i == near.link then false else g.has i)) → group_of (number near) members ≡ None →
    group_of (number (peer near)) members ≡ None → IsGrouping g n members → IsGrouping new n members
grouping-fewer g new n near members len has a b h = record {
  covers = let covers = h.covers in omega (arith, covers, len);
  beside = λ e below out. elim (eqb_tells e.link near.link) [
    | inl here ↦ own e here.1 e.side near.side refl refl
    | inr other ↦ h.beside e below (sym (ap (λ c. if c then false else g.has e.link) other.0) ∙ sym (has e.link) ∙ out)
  ];
}
  where
    at : (i j : ℕ) → i ≡ j → group_of j members ≡ None → group_of i members ≡ None
    at i j is none = ap (λ n. group_of n members) is ∙ none

    own : (e : SideId) → e.link ≡ near.link → (u v : Side) → e.side ≡ u → near.side ≡ v → group_of (number e) members ≡ None
    own e link In In s v =
        at (number e) (number near) (let p = ap half s in let q = ap half v in omega (arith, link, p, q)) a
    own e link Out Out s v =
        at (number e) (number near) (let p = ap half s in let q = ap half v in omega (arith, link, p, q)) a
    own e link In Out s v =
        at (number e) (number (peer near)) (let p = ap half s in let q = ap (λ z. half (other z)) v in omega (arith, link, p, q)) b
    own e link Out In s v =
        at (number e) (number (peer near)) (let p = ap half s in let q = ap (λ z. half (other z)) v in omega (arith, link, p, q)) b

-- the places of the sides of opened links are below those of a new one
old-place : {A : Type 0} (n : ℕ) (xs ys : List A) (d : A) (z : SideId) → length xs ≡ 2 * n → z.link < n →
    slice_index_or (xs ++ ys) (number z) d ≡ slice_index_or xs (number z) d
old-place n xs ys d z many below = get_or_append_left xs ys d (number z) (omega (arith, many, below, half-below z.side))

-- A link was opened, which is watched.
pub watching-opened : (w v : RestingValue) (time turn : ℕ) (k j : Links) (near far : NewSide) →
    IsWatching w time k → length k.sides ≡ 2 * k.opened → length k.gauges ≡ 2 * k.opened → HasPlaces (k.opened + 1) w →
    Wakes w v → v.watched.has k.opened ≡ true → j ≡ with_link time turn near far k → IsWatching v time j
watching-opened w v time turn k j near far h sides gauges room more there is = record {
  covers = let len = more.len in let places = room.0 in omega (arith, count, len, places);
  places = let len = more.places in let places = room.1 in omega (arith, count, len, places);
  absent = λ i past. more.none i (h.absent i (omega (arith, count, past)));
  beside = λ e below out.
      let other : e.link ≢ k.opened = (λ same. absurd (let t : true ≡ false = sym there ∙ ap v.watched.has (sym same) ∙ out in cc)) in
      let under : e.link < k.opened = omega (arith, below, count, other) in
      let side = ap (λ (l : Links). links.side_at l e) is ∙ old-place k.opened k.sides _ no_side e sides under in
      let gauge = ap (λ (l : Links). links.gauge_at l e) is ∙ old-place k.opened k.gauges _ no_gauge e gauges under in
      subst (λ m. IsResting m time (links.side_at j e) (links.gauge_at j e)) (sym (more.kept e out))
      (resting-parts (side_moment w e) time (sym side) (sym gauge) (h.beside e under (more.grew e.link out)));
}
  where
    count : j.opened ≡ k.opened + 1
    count = ap (λ (l : Links). l.opened) is

-- What is kept of the relay stays sound as a side changes.

-- also when the side was active last is as it was
pub record IsMuchAlike (x y : PlainSide) : Type 0 where
  pub alike : IsAlike x y
  pub read : y.last_read ≡ x.last_read
  pub write : y.last_write ≡ x.last_write

pub much_enabled : (d : Dir) (on : Bool) (x : PlainSide) → IsMuchAlike x (enabled d on x)
much_enabled dir.Read on x = record { alike = alike-enabled dir.Read on x; read = refl; write = refl }
much_enabled dir.Write on x = record { alike = alike-enabled dir.Write on x; read = refl; write = refl }

side_sound : (time : ℕ) (u : Bool) (x y : PlainSide) → IsMuchAlike x y → IsSoundSide time u x → IsSoundSide time u y
side_sound time u x y a h = (
  subst (λ n. n ≤ time) (sym a.read) h.0,
  subst (λ n. n ≤ time) (sym a.write) h.1,
  λ e. let p = h.2 e in (a.alike.timeouts ∙ p.0, a.alike.expired ∙ p.1, a.alike.limit ∙ p.2),
)

pub changed_sound : (r : Inside) (s : PoolValue) (e : SideId) (f : PlainSide → PlainSide) → IsSound r →
    s.links ≡ change_side e f r.sides.links → ((x : PlainSide) → IsMuchAlike x (f x)) → IsSound (record r { sides = s })
changed_sound r s e f h is like = record {
  timed = still_sound r.settings r.time r.untimed r.sides.links s.links e f h.timed
      (λ p. side_sound r.time r.untimed (links.side_at r.sides.links e) (f (links.side_at r.sides.links e))
      (like (links.side_at r.sides.links e)) p)
      (ap (λ (z : Links). z.sides) is) (ap (λ (z : Links). z.gauges) is);
  grouped = h.grouped;
  watching = watching-changed r.resting r.time r.sides.links h.watching s.links e f is (λ x. (like x).alike);
  grouping = grouping-at r.grouped r.sides.links.opened s.links.opened r.groups.value.members (ap (λ (z : Links). z.opened) is) h.grouping;
  time = h.time;
  few = h.few;
  room = h.room;
  limits = h.limits;
}

-- Which links are watched yet, as one link after the other is looked at.

pub forgotten-none : (s : State) (old : NumberSetValue) → AreForgotten s 0 old old
forgotten-none s old = (λ n lt. absurd (omega (arith, lt)), λ n le. refl)

-- none of those that come next is watched
pub forgotten-all : (s : State) (old new : NumberSetValue) (from to : ℕ) → from ≤ to → AreOut new from to → AreForgotten s from old new →
    AreForgotten s to old new
forgotten-all s old new from to le out h = (
  λ n lt. elim (cases_lt n from) [
    | inl less ↦ h.0 n less
    | inr more ↦ out n more lt ∙ sym (ap (λ b. b && not (is_still_link s n)) (sym (h.1 n more) ∙ out n more lt))
  ],
  λ n more. h.1 n (omega (arith, le, more)),
)

pub forgotten-next : (s : State) (old mid new : NumberSetValue) (from k : ℕ) → from ≤ k → AreOut mid from k → AreForgotten s from old mid →
    ((n : ℕ) → new.has n ≡ (if n == k then mid.has n && not (is_still_link s n) else mid.has n)) → AreForgotten s (k + 1) old new
forgotten-next s old mid new from k le out h now =
    let upto = forgotten-all s old mid from k le out h in (
      λ n lt. elim (eqb_tells n k) [
        | inl here ↦ now n ∙ ap (λ z. if z then mid.has n && not (is_still_link s n) else mid.has n) here.0
            ∙ ap (λ b. b && not (is_still_link s n)) (upto.1 n (let is = here.1 in omega (arith, is)))
        | inr there ↦ now n ∙ ap (λ z. if z then mid.has n && not (is_still_link s n) else mid.has n) there.0
            ∙ upto.0 n (let apart = there.1 in omega (arith, lt, apart))
      ],
      λ n more. elim (eqb_tells n k) [
        | inl here ↦ absurd (let is = here.1 in omega (arith, is, more))
        | inr there ↦ now n ∙ ap (λ z. if z then mid.has n && not (is_still_link s n) else mid.has n) there.0
            ∙ upto.1 n (omega (arith, more))
      ],
    )
