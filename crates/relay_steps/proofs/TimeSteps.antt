-- How a turn begins: each side is looked at in turn, and what the relay makes of it is what the model makes, since at every place what a
-- side wants is the model's.
use Rattle.std.proofs.Common.{◌≡◌, ℕ, zero, suc, ◌+◌, ◌<◌, ◌≤◌, Bool, true, false, not, if◌then◌else◌, [], ◌∷◌, ◌++◌, fold, filter, refl}
use Rattle.std.proofs.Common.{sym, ◌∙◌, ap, subst, arith}
use Rattle.std.specs.Prelude.{nat_le, nat_lt, option_map, slice_get, List, length, Option, Some, None, ◌*◌}
use Rattle.token_bucket.specs.declared.limit.Dir.{Dir}
use Rattle.token_bucket.specs.declared.limit.Dir.TheVariants as dir
use Rattle.ev_types.specs.declared.side.Side.TheVariants.{In, Out}
use Rattle.ev_types.specs.declared.side.SideId.{SideId}
use Rattle.ev_types.specs.declared.why.Why.TheVariants as why
use Rattle.ev_types.specs.declared.entry.Entry.TheVariants as entry
use Rattle.ev_types.specs.Times.{latest}
use Rattle.ev_types.specs.Trace.{Trace}
use Rattle.relay_model.specs.Settings.{Settings}
use Rattle.relay_model.specs.Plain.{Plain, PlainSide, Timer, side_at, change_side, sides_from, all_sides}
use Rattle.relay_model.specs.Past.{Past, past}
use Rattle.relay_model.specs.Rooms as rooms
use Rattle.relay_model.specs.Reasons.{raise, happened, timeout_flag}
use Rattle.relay_model.specs.Moments as model
use Rattle.relay_model.specs.Moments.{is_timed, has_run_out, active_at, expire, both_ways, timers_taken, time_passed}
use Rattle.relay_model.specs.Stages.{Stage, at}
use Rattle.relay_model.specs.Turn.{turned_to}
use Rattle.relay_model.proofs.Frames.{active-rates, expire-rates, rates_of, frame-timed, frame-fold, frame-raise, frame-time_passed}
use Rattle.relay_model.proofs.SeenLemmas.{but_expired}
use Rattle.relay_state.specs.State.{State, with_plain, gauge_in, gauge_at}
use Rattle.relay_state.specs.Time.{timed, side_timed, begun}
use Rattle.relay_steps.specs.Meaning.{StandsFor}
use Rattle.relay_steps.proofs.EndLemmas.{IsSilent, told-same}
use Rattle.relay_model.specs.Rates.{side_spells, standing_level}
use Rattle.relay_state.specs.Running.{Gauge, held_at}
use Rattle.rate_group.specs.Steps.{all_refilled}
use Rattle.relay_model.specs.Groups.{group_spells, members, share_among}
use Rattle.relay_model.proofs.ReachLemmas.{shape-is_told}
use Rattle.relay_steps.specs.Gauges.{BucketFits, Gauged}
use Rattle.relay_steps.specs.Grouped.{Grouped}
use Rattle.relay_steps.proofs.GroupedSteps.{turned-grouped}
use Rattle.relay_steps.proofs.MemberSteps.{members-same}
use Rattle.relay_steps.proofs.GaugeSteps.{bucket-turn}
use Rattle.relay_steps.proofs.RoomLemmas.{allowed-is, shared-is, SideFits, wants-fits, stands-fits}
use Rattle.relay_steps.proofs.StandsLemmas.{SameView, view-same, view-then, view-if, view-fold, view-change, view-raise, view-side}
use Rattle.relay_steps.proofs.StandsLemmas.{stands-put}

-- What time leaves of the plain state

active-seen : (time : ℕ) (d : Dir) (x : PlainSide) → but_expired (active_at time d x) ≡ but_expired x
active-seen time dir.Read x = refl
active-seen time dir.Write x = refl

expire-seen : (d : Dir) (x : PlainSide) → but_expired (expire d x) ≡ but_expired x
expire-seen dir.Read x = refl
expire-seen dir.Write x = refl

module _ (g : Settings) (P : Past) where
  view-timed : (e : SideId) (p : Plain) (d : Dir) → SameView p (model.timed g P e p d)
  view-timed e p d =
      let gone = change_side e (expire d) p in
      view-if (not (is_timed (side_at p e) d)) p p _ (view-same p)
      (view-if (not (rooms.wants g P p e d)) p (change_side e (active_at p.time d) p) _
      (view-change e (active_at p.time d) p (active-seen p.time d) (active-rates p.time d))
      (view-if (has_run_out (side_at p e) d p.time) p (raise g e (happened d timeout_flag) gone) p
      (view-then p gone _ (view-change e (expire d) p (expire-seen d) (expire-rates d)) (view-raise g e (happened d timeout_flag) gone))
      (view-same p)))

  view-side_timed : (p : Plain) (e : SideId) → SameView p (model.side_timed g P p e)
  view-side_timed p e = view-fold (model.timed g P e) (λ z d. view-timed e z d) p both_ways

  view-taken : (p : Plain) → SameView p (timers_taken g p)
  view-taken p =
      let later : Plain = record p { timers = filter (λ x. nat_lt p.time x.deadline) p.timers } in
      view-then p later _ (record { opened = refl; sides = refl; flows = refl; seen = λ e. refl; rates = λ e. refl })
      (view-fold {A = Timer} (λ state x. raise g x.side why.Timer state) (λ z x. view-raise g x.side why.Timer z) later
      ((filter (λ x. nat_le x.deadline p.time) p.timers)))

  view-passed : (p : Plain) → SameView p (time_passed g P p)
  view-passed p =
      view-then p (timers_taken g p) _ (view-taken p) (view-fold (model.side_timed g P) view-side_timed (timers_taken g p) (all_sides p))

-- What the relay makes of each side

module _ (u : Trace) (s : State) where
  abbrev g : Settings
  g = s.settings

  abbrev P : Past
  P = past g u

  abbrev Fits : Plain → SideId → Type 0
  Fits p e = SideFits u (with_plain p s) e

  -- what the group of a side leaves to it, where all sides are live and have groups as before
  share-on : (p q : Plain) (e : SideId) → SameView p q → q.time ≡ p.time → length p.sides ≡ 2 * p.opened → (d : Dir) →
      rooms.share g P p e d ≡ rooms.share g P q e d
  share-on p q e view time size d =
      ap (rooms.share_in g P p d) (sym (ap (λ z. z.1) (view.rates e))) ∙ by_group (side_at q e).group
    where
      same : (n : ℕ) → members q n ≡ members p n
      same n =
          members-same p q size (view.sides ∙ size ∙ ap (λ m. 2 * m) (sym view.opened)) view.opened
          (λ a. ap (λ z. z.live) (view.seen a)) (λ a. ap (λ z. z.1) (view.rates a)) n

      by_group : (o : Option ℕ) → rooms.share_in g P p d o ≡ rooms.share_in g P q d o
      by_group None = refl
      by_group (Some n) =
          let members = same n in
          λ i. option_map (λ y. share_among y d (group_spells g n d u) ((sym time) i) ((sym members) i)) (slice_get g.groups n)

  fits-on : (p q : Plain) (e : SideId) → SameView p q → q.time ≡ p.time → length p.sides ≡ 2 * p.opened → Fits p e → Fits q e
  fits-on p q e view time size k =
      view-side u u s s.groups p q e
      (λ a. record { read = refl; given = refl; ended = refl; moved = refl; given_free = refl; closed = refl })
      view
      (λ d. (λ i. option_map (λ y. held_at y.cfg (gauge_at s e) d (time i)) ((view.rates e i).0)) ∙ k.allowed d
      ∙ sym (λ i. option_map (λ y. standing_level y d (side_spells e d u) (time i)) ((view.rates e i).0)))
      (λ d. k.shared d ∙ share-on p q e view time size d) k

  size-on : (p q : Plain) → SameView p q → length p.sides ≡ 2 * p.opened → length q.sides ≡ 2 * q.opened
  size-on p q view size = view.sides ∙ size ∙ ap (λ m. 2 * m) (sym view.opened)

  side-time : (p : Plain) (e : SideId) → (model.side_timed g P p e).time ≡ p.time
  side-time p e = (frame-fold (model.timed g P e) p both_ways (λ z d. frame-timed g P e z d)).shape.time

  timed-is : (p : Plain) (e : SideId) (d : Dir) → Fits p e → timed e (with_plain p s) d ≡ with_plain (model.timed g P e p d) s
  timed-is p e d k =
      ap (λ wanted. if not (is_timed (side_at p e) d) then with_plain p s
      else (if not wanted then with_plain (change_side e (active_at p.time d) p) s
      else (if has_run_out (side_at p e) d p.time
      then with_plain (raise g e (happened d timeout_flag) (change_side e (expire d) p)) s else with_plain p s)))
      (wants-fits u (with_plain p s) e k d)
      ∙ branch (not (is_timed (side_at p e) d)) (not (rooms.wants g P p e d)) (has_run_out (side_at p e) d p.time)
      (change_side e (active_at p.time d) p) (raise g e (happened d timeout_flag) (change_side e (expire d) p))
    where
      branch : (a b c : Bool) (x y : Plain) →
          (if a then with_plain p s else (if b then with_plain x s else (if c then with_plain y s else with_plain p s)))
          ≡ with_plain (if a then p else (if b then x else (if c then y else p))) s
      branch true b c x y = refl
      branch false true c x y = refl
      branch false false true x y = refl
      branch false false false x y = refl

  side_timed-is : (p : Plain) (e : SideId) → length p.sides ≡ 2 * p.opened → Fits p e →
      side_timed (with_plain p s) e ≡ with_plain (model.side_timed g P p e) s
  side_timed-is p e size k =
      let q = model.timed g P e p dir.Read in
      ap (λ z. timed e z dir.Write) (timed-is p e dir.Read k)
      ∙ timed-is q e dir.Write (fits-on p q e (view-timed g P e p dir.Read) (frame-timed g P e p dir.Read).shape.time size k)

  sides_timed-is : (p : Plain) (k n : ℕ) → length p.sides ≡ 2 * p.opened → ((e : SideId) → e.link < k + n → Fits p e) →
      fold side_timed (with_plain p s) (sides_from k n) ≡ with_plain (fold (model.side_timed g P) p (sides_from k n)) s
  sides_timed-is p k zero size h = refl
  sides_timed-is p k (suc n) size h =
      let i : SideId = record { link = k; side = In } in
      let o : SideId = record { link = k; side = Out } in
      let q = model.side_timed g P p i in
      let r = model.side_timed g P q o in
      let first = view-side_timed g P p i in
      let both = view-then p q r first (view-side_timed g P q o) in
      ap (λ z. fold side_timed (side_timed z o) (sides_from (k + 1) n)) (side_timed-is p i size (h i (omega arith)))
      ∙ ap (λ z. fold side_timed z (sides_from (k + 1) n))
      (side_timed-is q o (size-on p q first size) (fits-on p q o first (side-time p i) size (h o (omega arith))))
      ∙ sides_timed-is r (k + 1) n (size-on p r both size)
      (λ e l. fits-on p r e both (side-time q o ∙ side-time p i) size (h e (omega (arith, l))))

silent-turn : (ms : ℕ) (a : SideId) → IsSilent (entry.Turn ms, []) a
silent-turn ms a = record { read = refl; given = refl; ended = refl; moved = refl; given_free = refl; closed = refl }

-- Buckets fit as a turn begins: what came since is worked out as they are looked at.
turned-gauged : (t : Trace) (ms : ℕ) (p q : Plain) (xs : List Gauge) → p.time ≤ ms → q.opened ≡ p.opened → q.time ≡ ms →
    ((a : SideId) → rates_of (side_at q a) ≡ rates_of (side_at p a)) → Gauged t p xs → Gauged (t ++ (entry.Turn ms, []) ∷ []) q xs
turned-gauged t ms p q xs later opened time rates k = record {
  many = k.many ∙ ap (λ n. 2 * n) (sym opened);
  each = λ e y is d.
      subst (λ z. BucketFits (t ++ (entry.Turn ms, []) ∷ []) z y e (gauge_in xs e) d) (sym time)
      (bucket-turn t ms [] p.time y e (gauge_in xs e) d later (k.each e y (sym (ap (λ z. z.0) (rates e)) ∙ is) d));
}

taken-time : (g : Settings) (p : Plain) → (timers_taken g p).time ≡ p.time
taken-time g p =
    (frame-fold (λ state (x : Timer). raise g x.side why.Timer state)
    (record p { timers = filter (λ x. nat_lt p.time x.deadline) p.timers })
    (filter (λ x. nat_le x.deadline p.time) p.timers) (λ z x. frame-raise g x.side why.Timer z)).shape.time

-- the relay makes of the time what the model makes of it
pub begun-is : (t : Trace) (s : State) (ms : ℕ) → StandsFor t Stage.Between s → s.plain.time ≤ ms →
    begun s ms ≡ with_plain (time_passed s.settings (past s.settings (t ++ (entry.Turn ms, []) ∷ [])) (turned_to ms s.plain))
    (record s { groups = all_refilled ms s.groups })
begun-is t s ms k from =
    let g = s.settings in
    let u : Trace = t ++ (entry.Turn ms, []) ∷ [] in
    let p : Plain = turned_to ms s.plain in
    let q : Plain = timers_taken g p in
    let to_p : SameView s.plain p = record { opened = refl; sides = refl; flows = refl; seen = λ e. refl; rates = λ e. refl } in
    let view = view-then s.plain p q to_p (view-taken g (past g u) p) in
    let refilled : State = record s { groups = all_refilled ms s.groups } in
    let size : length q.sides ≡ 2 * q.opened = size-on u s s.plain q view (shape-is_told g t (at Stage.Between s.plain) k.reached).sides in
    let grouped : Grouped g u q refilled.groups =
    turned-grouped g t ms s.plain q s.groups k.groups from view.opened (taken-time g p) view.rates (λ a. ap (λ z. z.live) (view.seen a))
    k.grouped in
    sides_timed-is u refilled q 0 q.opened size (λ e l.
    view-side t u s refilled.groups s.plain q e (λ a. told-same t (entry.Turn ms, []) a (silent-turn ms a)) view
    (allowed-is u (with_plain q s) e (turned-gauged t ms s.plain q s.gauges from view.opened (taken-time g p) view.rates k.gauged))
    (shared-is u (with_plain q refilled) e grouped size)
    (stands-fits t Stage.Between s e k (omega (arith, l, view.opened))))
    ∙ ap (λ n. with_plain (fold (model.side_timed g (past g u)) q (sides_from 0 n)) refilled) view.opened

-- A turn begins, at a time that is not below the last.
pub turn-stands : (t : Trace) (s : State) (ms : ℕ) → StandsFor t Stage.Between s → s.plain.time ≤ ms → ms ≤ latest →
    StandsFor (t ++ (entry.Turn ms, []) ∷ []) Stage.Polling (begun s ms)
turn-stands t s ms k from until =
    let g = s.settings in
    let u : Trace = t ++ (entry.Turn ms, []) ∷ [] in
    let p : Plain = turned_to ms s.plain in
    let q : Plain = time_passed g (past g u) p in
    let to_p : SameView s.plain p = record { opened = refl; sides = refl; flows = refl; seen = λ e. refl; rates = λ e. refl } in
    subst (StandsFor u Stage.Polling) (sym (begun-is t s ms k from))
    (stands-put t Stage.Between Stage.Polling s q (all_refilled ms s.groups) (entry.Turn ms, []) k (from, until, refl, refl) tt
    (silent-turn ms)
    (view-then s.plain p q to_p (view-passed g (past g u) p))
    (let view = view-then s.plain p q to_p (view-passed g (past g u) p) in
    turned-gauged t ms s.plain q s.gauges from view.opened (frame-time_passed g (past g u) p).shape.time view.rates k.gauged)
    (let view = view-then s.plain p q to_p (view-passed g (past g u) p) in
    turned-grouped g t ms s.plain q s.groups k.groups from view.opened (frame-time_passed g (past g u) p).shape.time view.rates
    (λ a. ap (λ z. z.live) (view.seen a)) k.grouped))
