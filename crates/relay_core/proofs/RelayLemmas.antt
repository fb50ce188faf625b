-- The relay's state as its links and its groups change, and what is so of each side.
use Rattle.std.proofs.Common.{◌≡◌, ◌≢◌, ◌≤◌, ◌<◌, ℕ, zero, suc, Bool, true, false, Result, Ok, Err, MatchResult, if◌then◌else◌, List, []}
use Rattle.std.specs.Prelude.{MatchBool, ◌⊎◌}
use Rattle.std.proofs.Common.{inl, inr}
use Rattle.std.proofs.Common.{◌∷◌, slice_index_or, Option, Some, None, option_map, length, nat_eq, refl, sym, ◌∙◌, ap, subst, arith}
use Rattle.std.proofs.lemmas.List.Elements.{All-set, All-head, All-tail, All-nil, All-cons, All-append}
use Rattle.std.specs.Prelude.{slice_set, map, min, ◌-◌, IfSome}
use Rattle.std.specs.List.{All}
use Rattle.std.specs.Map.{remove_entry}
use Rattle.std.specs.Option.{option_map_or}
use Rattle.token_bucket.specs.declared.limit.Dir.{Dir}
use Rattle.token_bucket.specs.declared.limit.Dir.TheVariants as dir
use Rattle.token_bucket.specs.declared.limit.LimitCfg.{LimitCfg}
use Rattle.ev_types.specs.declared.side.SideId.{SideId}
use Rattle.ev_types.specs.Sides.{number, peer}
use Rattle.ev_types.specs.declared.settings.Settings.{Settings}
use Rattle.rate_group.specs.declared.group_set.GroupSet.{GroupSet}
use Rattle.rate_group.specs.GroupValue.{GroupValue, GroupsValue}
use Rattle.rate_group.specs.GroupsCalls.{no_groups}
use Rattle.rate_group.specs.Steps.{changed_at, spent_in, refilled_to, spent, joined, left, group_of, all_refilled}
use Rattle.relay_model.specs.Plain.{PlainSide, Standing, no_side, first_limit}
use Rattle.relay_model.specs.Moments.{active_at}
use Rattle.relay_state.specs.Running.{Gauge, no_gauge, gauge_after, gauge_begun, gauge_set}
use Rattle.relay_state.specs.State.{State, lane_at, lane_got, with_lane, with_plain, gauges_after}
use Rattle.relay_model.specs.Rooms.{at_most, most_at_once, read_mark, may_read, may_write}
use Rattle.relay_state.specs.Opening.{joined_where}
use Rattle.relay_state.specs.Closing.{in_side, out_side}
use Rattle.relay_state.specs.Passage.{Passage, read_part}
use Rattle.relay_state.specs.Serving.{with_got}
use Rattle.relay_state.specs.Rooms.{allowance, share, within_rates, read_room, write_room, waiting_for, input_length}
use Rattle.relay_state.specs.Passing.{with_bad, read_run}
use Rattle.ev_types.specs.declared.answer.ReadAnswer.TheVariants as read
use Rattle.relay_model.specs.Serve as model
use Rattle.relay_sides.specs.Links as links
use Rattle.relay_sides.specs.Links.{Links, change_side, opening_side, with_link}
use Rattle.relay_sides.specs.declared.opening.NewSide.{NewSide}
use Rattle.relay_sides.specs.LinkPasses.{PassedLink, PartlyPassedLink, NoRoundOfLinkChanges}
use Rattle.relay_sides.specs.KeptLimits.{IsAllowed}
use Rattle.relay_core.specs.BothPassed.{PassedBoth, PartlyPassedBoth, BothStandStill}
use Rattle.relay_core.specs.RelayValue.{RelayValue}
use Rattle.relay_core.specs.RelayView.{state_with, relay_of, AreSound, HasGroups, IsSound, IsSoundSide}
use Rattle.relay_core.specs.GivenGroups.{group_given}
use Rattle.relay_core.specs.Rateless.{HasNoRates}
use Rattle.relay_core.specs.SettingsView.{near_of, far_of}
use Rattle.relay_core.specs.declared.ctl.Ctl.TheInside.{Inside}
use Rattle.relay_core.specs.declared.rate_groups.RateGroups.{RateGroups}

pub length-map : {A B : Type 0} (f : A → B) (xs : List A) → length (map f xs) ≡ length xs
length-map f [] = refl
length-map f (x ∷ xs) = ap suc (length-map f xs)

-- what is more than nothing has room for the rates of a link
pub rates-fit : (b : Bool) (n : ℕ) → 0 < (if b then n else 0) → (b ≡ true) × (0 < n)
rates-fit true n h = (refl, h)
rates-fit false n h = absurd (omega (arith, h))

-- what there is room for is within limit and share, and within what there is

within-parts : (a b : Option ℕ) (k n : ℕ) → k ≤ at_most a (at_most b n) → IsAllowed k a × IsAllowed k b × (k ≤ n)
within-parts None None k n h = (tt, tt, h)
within-parts None (Some m) k n h = (tt, omega (arith, h), omega (arith, h))
within-parts (Some j) None k n h = (omega (arith, h), tt, omega (arith, h))
within-parts (Some j) (Some m) k n h = (omega (arith, h), omega (arith, h), omega (arith, h))

within-nothing : (a : Option ℕ) → IsAllowed 0 a
within-nothing None = tt
within-nothing (Some m) = omega arith

room-parts : (b : Bool) (s : State) (e : SideId) (d : Dir) (k n : ℕ) → k ≤ (if b then within_rates s e d n else 0) →
    IsAllowed k (share s e d) × IsAllowed k (allowance s e d) × (k ≤ n)
room-parts true s e d k n h = within-parts (share s e d) (allowance s e d) k n h
room-parts false s e d zero n h = (within-nothing (share s e d), within-nothing (allowance s e d), omega arith)
room-parts false s e d (suc k) n h = absurd (omega (arith, h))

pub read-within : (s : State) (e : SideId) (k : ℕ) → k ≤ read_room s e →
    IsAllowed k (share s e dir.Read) × IsAllowed k (allowance s e dir.Read)
read-within s e k h = let p = room-parts (may_read s.plain e) s e dir.Read k (min most_at_once
    (read_mark s.plain e - input_length s e)) h in (p.0, p.1)

pub write-within : (s : State) (e : SideId) (k : ℕ) → k ≤ write_room s e →
    IsAllowed k (share s e dir.Write) × IsAllowed k (allowance s e dir.Write) × (k ≤ length (waiting_for s e))
write-within s e k h =
    let p = room-parts (may_write s.plain e) s e dir.Write k (min most_at_once (length (waiting_for s e))) h in (
      p.0,
      p.1,
      omega
          (arith, p.2),
    )

-- what is so of each side

-- of each side and of none
all_at : (P : PlainSide → Type 0) → P no_side → (xs : List PlainSide) → All P xs → (n : ℕ) → P (slice_index_or xs n no_side)
all_at P none [] all zero = none
all_at P none [] all (suc n) = none
all_at P none (x ∷ xs) all zero = All-head P x xs all
all_at P none (x ∷ xs) all (suc n) = all_at P none xs (All-tail P x xs all) n

pub sound_at : (time : ℕ) (untimed : Bool) (xs : List PlainSide) → All (IsSoundSide time untimed) xs → (n : ℕ) →
    IsSoundSide time untimed (slice_index_or xs n no_side)
sound_at time untimed xs all n = all_at (IsSoundSide time untimed) (omega arith, omega arith, λ e. (refl, refl, refl)) xs all n

-- no bucket is ahead of the time
pub later_at : (time : ℕ) (xs : List Gauge) → All (λ (x : Gauge). x.time ≤ time) xs → (n : ℕ) → (slice_index_or xs n no_gauge).time ≤ time
later_at time [] all zero = omega arith
later_at time [] all (suc n) = omega arith
later_at time (x ∷ xs) all zero = All-head (λ (x : Gauge). x.time ≤ time) x xs all
later_at time (x ∷ xs) all (suc n) = later_at time xs (All-tail (λ (x : Gauge). x.time ≤ time) x xs all) n

-- and none is as bytes are moved at the time, as a limit is set, and as a side opens

pub gauge_after-time : (y : Option Standing) (time : ℕ) (d : Dir) (n : ℕ) (x : Gauge) → x.time ≤ time →
    (gauge_after y time d n x).time ≤ time
gauge_after-time None time d n x h = h
gauge_after-time (Some y) time dir.Read n x h = omega arith
gauge_after-time (Some y) time dir.Write n x h = omega arith

pub gauge_set-time : (y : Option Standing) (cfg : Option LimitCfg) (time : ℕ) (x : Gauge) → (gauge_set y cfg time x).time ≤ time
gauge_set-time y None time x = omega arith
gauge_set-time None (Some cfg) time x = omega arith
gauge_set-time (Some y) (Some cfg) time x = omega arith

gauge_begun-time : (cfg : Option LimitCfg) (time : ℕ) → (gauge_begun cfg time).time ≤ time
gauge_begun-time None time = omega arith
gauge_begun-time (Some cfg) time = omega arith

module _ (g : Settings) (time : ℕ) (untimed : Bool) where
  -- They are sound with one changed, where it stays sound.
  pub still_sound : (k j : Links) (e : SideId) (f : PlainSide → PlainSide) → AreSound g time untimed k →
      (IsSoundSide time untimed (links.side_at k e) → IsSoundSide time untimed (f (links.side_at k e))) →
      j.sides ≡ (change_side e f k).sides → j.gauges ≡ k.gauges → AreSound g time untimed j
  still_sound k j e f h keeps is same = record {
    unset = h.unset;
    sides = subst (All (IsSoundSide time untimed)) (sym is)
        (All-set (IsSoundSide time untimed) k.sides (number e) (f (links.side_at k e))
        (keeps (sound_at time untimed k.sides h.sides (number e))) h.sides);
    gauges = subst (All (λ (x : Gauge). x.time ≤ time)) (sym same) h.gauges;
  }

  -- and with other buckets of a side
  pub gauge_sound : (k j : Links) (e : SideId) (x : Gauge) → AreSound g time untimed k → x.time ≤ time → j.sides ≡ k.sides →
      j.gauges ≡ slice_set k.gauges (number e) x → AreSound g time untimed j
  gauge_sound k j e x h within is same = record {
    unset = h.unset;
    sides = subst (All (IsSoundSide time untimed)) (sym is) h.sides;
    gauges = subst (All (λ (x : Gauge). x.time ≤ time)) (sym same)
        (All-set (λ (x : Gauge). x.time ≤ time) k.gauges (number e) x within h.gauges);
  }

  -- and as a direction is passed
  passage_sound : (k j : Links) (e : SideId) (x : Passage) → AreSound g time untimed k → j ≡ links.with_passage e x k →
      AreSound g time untimed j
  passage_sound k j e x h is =
      still_sound (change_side e (with_bad x.from_bad) k) j (peer e) (with_bad x.to_bad)
      (still_sound k (change_side e (with_bad x.from_bad) k) e (with_bad x.from_bad) h (λ z. z) refl refl) (λ z. z)
      (ap (λ (z : Links). z.sides) is) (ap (λ (z : Links). z.gauges) is)

  pub passed_sound : (hold : ℕ) (k j : Links) (link : ℕ) (E : Type 0) (result : Result Bool E) → AreSound g time untimed k →
      MatchResult result (λ changed. PassedLink hold k link changed j) (λ _. PartlyPassedLink hold k link j) → AreSound g time untimed j
  passed_sound hold k j link E (Ok a) h p =
      passage_sound p.0 j (out_side link) p.2.0 (passage_sound k p.0 (in_side link) p.1.0 h p.1.2) p.2.2
  passed_sound hold k j link E (Err a) h p = elim p [
    | inl q ↦ passage_sound k j (in_side link) q.0 h q.2
    | inr q ↦ passage_sound q.0 j (out_side link) q.2.0 (passage_sound k q.0 (in_side link) q.1.0 h q.1.2) q.2.2
  ]

  -- and as bytes are got
  pub got_sound : (k j : Links) (e : SideId) (bytes : List ℕ) → AreSound g time untimed k → j ≡ links.after_got time e bytes k →
      AreSound g time untimed j
  got_sound k j e bytes h is =
      let grown : Links = links.with_got time e bytes k in
      passage_sound grown j e (read_part (links.read_mark grown e) false (links.passage_at grown e))
      (still_sound k grown e (active_at time dir.Read) h (λ z. (omega arith, z.1, z.2)) refl refl) is

  -- and with two more
  pub opened_sound : (turn : ℕ) (k j : Links) (in_group out_group : Option ℕ) (connected : Bool) → AreSound g time untimed k →
      j ≡ with_link time turn (near_of g in_group) (far_of g out_group connected) k → AreSound g time untimed j
  opened_sound turn k j in_group out_group connected h is =
      let P : PlainSide → Type 0 = IsSoundSide time untimed in
      let Q : Gauge → Type 0 = λ x. x.time ≤ time in
      let a : NewSide = near_of g in_group in
      let b : NewSide = far_of g out_group connected in
      let p : P (opening_side time turn a) =
      (omega arith, omega arith, λ e. ((h.unset e).in_timeouts, refl, ap (option_map (first_limit time turn)) (h.unset e).in_rate)) in
      let q : P (opening_side time turn b) =
      (omega arith, omega arith, λ e. ((h.unset e).out_timeouts, refl, ap (option_map (first_limit time turn)) (h.unset e).out_rate)) in
      record {
        unset = h.unset;
        sides = subst (All P) (sym (ap (λ (z : Links). z.sides) is))
            (All-append P k.sides (opening_side time turn a ∷ opening_side time turn b ∷ []) h.sides
            (All-cons P (opening_side time turn a) (opening_side time turn b ∷ []) p (All-cons P (opening_side time turn b) [] q
            (All-nil P))));
        gauges = subst (All Q) (sym (ap (λ (z : Links). z.gauges) is))
            (All-append Q k.gauges (gauge_begun g.in_rate time ∷ gauge_begun g.out_rate time ∷ []) h.gauges
            (All-cons Q (gauge_begun g.in_rate time) (gauge_begun g.out_rate time ∷ []) (gauge_begun-time g.in_rate time)
            (All-cons Q (gauge_begun g.out_rate time) [] (gauge_begun-time g.out_rate time) (All-nil Q))));
      }

-- Groups

-- as many as there were
pub length-changed : (n : ℕ) (f : GroupValue → GroupValue) (xs : List GroupValue) → length (changed_at n f xs) ≡ length xs
length-changed n f [] = refl
length-changed zero f (x ∷ xs) = refl
length-changed (suc n) f (x ∷ xs) = ap suc (length-changed n f xs)

spent-many : (member : ℕ) (d : Dir) (n : ℕ) (x : GroupsValue) → length (spent member d n x).groups ≡ length x.groups
spent-many member d n x = go (group_of member x.members)
  where
    go : (o : Option ℕ) → length (option_map_or (λ group. changed_at group (spent_in d n) x.groups) o x.groups) ≡ length x.groups
    go None = refl
    go (Some k) = length-changed k (spent_in d n) x.groups

-- Where no group is set none was given, and no side of a new link joins one.
pub given-none : (xs : List GroupSet) → map group_given xs ≡ [] → xs ≡ []
given-none [] h = refl
given-none (x ∷ xs) h = absurd (cc h)

below-none : (o : Option ℕ) (xs : List GroupSet) → IfSome o (λ n. n < length xs) → xs ≡ [] → o ≡ None
below-none None xs h e = refl
below-none (Some n) xs h e = absurd (let none = ap length e in omega (arith, h, none))

pub joins-none : (g : RateGroups) (u : Bool) (x : GroupsValue) → HasGroups g u x → g.groups.items ≡ [] → (g.in_group ≡ None) ×
    (g.out_group ≡ None)
joins-none g u x h e = (below-none g.in_group g.groups.items h.in_group e, below-none g.out_group g.groups.items h.out_group e)

-- Groups that change so, and no more or fewer, are sound where they were.
groups_sound : (g : RateGroups) (u : Bool) (x y : GroupsValue) → HasGroups g u x → length y.groups ≡ length x.groups →
    (x ≡ no_groups → y ≡ no_groups) → All (λ (z : GroupValue). 1 ≤ z.least) y.groups → HasGroups g u y
groups_sound g u x y h many none shares = record {
  many = many ∙ h.many;
  few = h.few;
  in_group = h.in_group;
  out_group = h.out_group;
  none = λ e. none (h.none e);
  untimed = h.untimed;
  shares = shares;
}

-- the least shares stay

abbrev AreShares : List GroupValue → Type 0
AreShares xs = All (λ (z : GroupValue). 1 ≤ z.least) xs

shares-changed : (n : ℕ) (d : Dir) (m : ℕ) (xs : List GroupValue) → AreShares xs → AreShares (changed_at n (spent_in d m) xs)
shares-changed n d m [] h = h
shares-changed zero d m (x ∷ xs) h =
    All-cons (λ (z : GroupValue). 1 ≤ z.least) (spent_in d m x) xs (one d) (All-tail (λ (z : GroupValue). 1 ≤ z.least) x xs h)
  where
    one : (v : Dir) → 1 ≤ (spent_in v m x).least
    one dir.Read = All-head (λ (z : GroupValue). 1 ≤ z.least) x xs h
    one dir.Write = All-head (λ (z : GroupValue). 1 ≤ z.least) x xs h
shares-changed (suc n) d m (x ∷ xs) h =
    All-cons (λ (z : GroupValue). 1 ≤ z.least) x (changed_at n (spent_in d m) xs) (All-head (λ (z : GroupValue). 1 ≤ z.least) x xs h)
    (shares-changed n d m xs (All-tail (λ (z : GroupValue). 1 ≤ z.least) x xs h))

shares-spent : (member : ℕ) (d : Dir) (m : ℕ) (x : GroupsValue) → AreShares x.groups → AreShares (spent member d m x).groups
shares-spent member d m x h = go (group_of member x.members)
  where
    go : (o : Option ℕ) → AreShares (option_map_or (λ group. changed_at group (spent_in d m) x.groups) o x.groups)
    go None = h
    go (Some k) = shares-changed k d m x.groups h

shares-refilled : (time : ℕ) (xs : List GroupValue) → AreShares xs → AreShares (map (refilled_to time) xs)
shares-refilled time [] h = h
shares-refilled time (x ∷ xs) h =
    All-cons (λ (z : GroupValue). 1 ≤ z.least) (refilled_to time x) (map (refilled_to time) xs)
    (All-head (λ (z : GroupValue). 1 ≤ z.least) x xs h)
    (shares-refilled time xs (All-tail (λ (z : GroupValue). 1 ≤ z.least) x xs h))

pub spent_sound : (g : RateGroups) (u : Bool) (x y : GroupsValue) (member : ℕ) (d : Dir) (n : ℕ) → HasGroups g u x → y
    ≡ spent member d n x →
    HasGroups g u y
spent_sound g u x y member d n h is =
    groups_sound g u x y h (ap (λ (z : GroupsValue). length z.groups) is ∙ spent-many member d n x) (λ e. is ∙ ap (spent member d n) e)
    (subst (λ (z : GroupsValue). AreShares z.groups) (sym is) (shares-spent member d n x h.shares))

-- sides of a new link join, In first
pub opened_groups_sound : (g : RateGroups) (u : Bool) (x y z : GroupsValue) (a b : SideId) → HasGroups g u x →
    y ≡ joined_where g.in_group a x → z ≡ joined_where g.out_group b y → HasGroups g u z
opened_groups_sound g u x y z a b h first second = record {
  many = ap (λ (w : GroupsValue). length w.groups) second ∙ joined-many g.out_group b y
      ∙ ap (λ (w : GroupsValue). length w.groups) first ∙ joined-many g.in_group a x ∙ h.many;
  few = h.few;
  in_group = h.in_group;
  out_group = h.out_group;
  none = λ e.
      let joins = joins-none g u x h e in
      second ∙ ap (λ o. joined_where o b y) joins.1 ∙ first ∙ ap (λ o. joined_where o a x) joins.0 ∙ h.none e;
  untimed = h.untimed;
  shares = subst (λ (w : GroupsValue). AreShares w.groups) (sym second) (joined-shares g.out_group b y
      (subst (λ (w : GroupsValue). AreShares w.groups) (sym first) (joined-shares g.in_group a x h.shares)));
}
  where
    joined-shares : (o : Option ℕ) (e : SideId) (w : GroupsValue) → AreShares w.groups → AreShares (joined_where o e w).groups
    joined-shares None e w p = p
    joined-shares (Some n) e w p = p

    joined-many : (o : Option ℕ) (e : SideId) (w : GroupsValue) → length (joined_where o e w).groups ≡ length w.groups
    joined-many None e w = refl
    joined-many (Some n) e w = refl

-- who joins a group finds one
pub asked_groups_sound : (g : RateGroups) (u : Bool) (x y : GroupsValue) (n member : ℕ) → HasGroups g u x → n < length g.groups.items →
    y ≡ joined n member x → HasGroups g u y
asked_groups_sound g u x y n member h below is = record {
  many = ap (λ (w : GroupsValue). length w.groups) is ∙ h.many;
  few = h.few;
  in_group = h.in_group;
  out_group = h.out_group;
  none = λ e. absurd (let none = ap length e in omega (arith, below, none));
  untimed = h.untimed;
  shares = subst (λ (w : GroupsValue). AreShares w.groups) (sym is) h.shares;
}

pub refilled_sound : (g : RateGroups) (u : Bool) (x y : GroupsValue) (time : ℕ) → HasGroups g u x → y ≡ all_refilled time x
    → HasGroups g u y
refilled_sound g u x y time h is =
    groups_sound g u x y h (ap (λ (z : GroupsValue). length z.groups) is ∙ length-map (refilled_to time) x.groups)
    (λ e. is ∙ ap (all_refilled time) e)
    (subst (λ (z : GroupsValue). AreShares z.groups) (sym is) (shares-refilled time x.groups h.shares))

pub left_sound : (g : RateGroups) (u : Bool) (x y : GroupsValue) (member : ℕ) → HasGroups g u x → y ≡ left member x → HasGroups g u y
left_sound g u x y member h is =
    groups_sound g u x y h (ap (λ (z : GroupsValue). length z.groups) is) (λ e. is ∙ ap (left member) e)
    (subst (λ (z : GroupsValue). AreShares z.groups) (sym is) h.shares)

absent-stays : (member : ℕ) (es : List (ℕ × ℕ)) → group_of member es ≡ None → remove_entry (nat_eq member) es ≡ es
absent-stays member [] e = refl
absent-stays member (y ∷ es) e = at (absent-stays member es) (nat_eq member y.0) e
  where
    at : (group_of member es ≡ None → remove_entry (nat_eq member) es ≡ es) → (b : Bool) →
        (if b then Some y.1 else group_of member es) ≡ None → (if b then es else y ∷ remove_entry (nat_eq member) es) ≡ y ∷ es
    at rest true p = absurd (cc p)
    at rest false p = ap (λ z. y ∷ z) (rest p)

-- who is in no group leaves none
pub left-none : (member : ℕ) (x : GroupsValue) → group_of member x.members ≡ None → left member x ≡ x
left-none member x h = ap (λ (z : List (ℕ × ℕ)). record x { members = z }) (absent-stays member x.members h)

-- nothing limits what sides move, as it is kept
pub rateless : (r : Inside) → IsSound r → r.untimed ≡ true → HasNoRates (state_with r r.sides.links)
rateless r sound e = record {
  limits = λ x. ((sound_at r.time r.untimed r.sides.links.sides sound.timed.sides (number x)).2 e).2;
  groups = sound.grouped.none (sound.grouped.untimed e);
  none = ap (map group_given) (sound.grouped.untimed e);
}

-- bytes stand behind the raw input, and no bucket has lost them
abbrev pub got_unspent : State → SideId → List ℕ → State
got_unspent s e bytes =
    with_lane e (lane_got bytes (lane_at s e)) (with_plain (model.after_read s.settings e (read.Got (length bytes)) s.plain) s)

-- once so many were spent, they are got
pub got_spent : (s y : State) (e : SideId) (bytes : List ℕ) (n : ℕ) → n ≡ length bytes →
    y ≡ record s { gauges = gauges_after e dir.Read n s; groups = spent (number e) dir.Read n s.groups } →
    read_run e (got_unspent y e bytes) ≡ read_run e (with_got s e bytes)
got_spent s y e bytes n len is =
    ap (λ (z : State). read_run e (got_unspent z e bytes)) is
    ∙ ap (λ (k : ℕ). read_run e
    (got_unspent (record s { gauges = gauges_after e dir.Read k s; groups = spent (number e) dir.Read k s.groups }) e bytes)) len

module _ (v : RelayValue) (r : Inside) (is : relay_of r ≡ v) where
  -- and as it is seen
  pub no_rates : IsSound r → r.untimed ≡ true → HasNoRates v.state
  no_rates sound e = subst (λ (z : RelayValue). HasNoRates z.state) is (rateless r sound e)

  -- what is so of the state inside is so of the one that is seen
  pub carried : (k : Links) (h : Links → Links) (f : State → State) → k ≡ h r.sides.links →
      state_with r (h r.sides.links) ≡ f (state_with r r.sides.links) → state_with r k ≡ f v.state
  carried k h f a b = ap (state_with r) a ∙ b ∙ ap (λ (z : RelayValue). f z.state) is

  -- bytes were got that were spent before
  pub got_seen : (k : Links) (e : SideId) (bytes : List ℕ) → k ≡ links.after_got r.time e bytes r.sides.links →
      state_with r k ≡ read_run e (got_unspent v.state e bytes)
  got_seen k e bytes a = carried k (links.after_got r.time e bytes) (λ z. read_run e (got_unspent z e bytes)) a refl

  -- passing

  apart_inside : (j k : Links) → k ≢ j → state_with r k ≢ state_with r j
  apart_inside j k differs = λ h.
      let opened = ap (λ (s : State). s.plain.opened) h in
      let sides = ap (λ (s : State). s.plain.sides) h in
      let flows = ap (λ (s : State). s.plain.flows) h in
      let lanes = ap (λ (s : State). s.lanes) h in
      let gauges = ap (λ (s : State). s.gauges) h in
      differs (λ i. record { opened = opened i; sides = sides i; flows = flows i; lanes = lanes i; gauges = gauges i })

  changed_inside : (b : Bool) (old middle new : Links) → MatchBool b ((middle ≢ old) ⊎ (new ≢ middle)) ((middle ≡ old) × (new ≡ middle)) →
      MatchBool b ((state_with r middle ≢ state_with r old) ⊎ (state_with r new ≢ state_with r middle))
      ((state_with r middle ≡ state_with r old) × (state_with r new ≡ state_with r middle))
  changed_inside true old middle new h = elim h [
    | inl d ↦ inl (apart_inside old middle d)
    | inr d ↦ inr (apart_inside middle new d)
  ]
  changed_inside false old middle new h = (ap (state_with r) h.0, ap (state_with r) h.1)

  pub state_passes : (k : Links) (link : ℕ) (E : Type 0) (result : Result Bool E) →
      MatchResult result (λ changed. PassedLink r.settings.hold r.sides.links link changed k)
      (λ _. PartlyPassedLink r.settings.hold r.sides.links link k) →
      MatchResult result (λ changed. PassedBoth v.state link changed (state_with r k)) (λ _. PartlyPassedBoth v.state link (state_with r k))
  state_passes k link E result h =
      subst (λ (z : RelayValue). MatchResult result (λ changed. PassedBoth z.state link changed (state_with r k))
      (λ _. PartlyPassedBoth z.state link (state_with r k)))
      is (go result h)
    where
      go : (a : Result Bool E) →
          MatchResult a (λ changed. PassedLink r.settings.hold r.sides.links link changed k)
          (λ _. PartlyPassedLink r.settings.hold r.sides.links link k) →
          MatchResult a (λ changed. PassedBoth (state_with r r.sides.links) link changed (state_with r k))
          (λ _. PartlyPassedBoth (state_with r r.sides.links) link (state_with r k))
      go (Ok a) p = (
        state_with r p.0,
        (p.1.0, p.1.1, ap (state_with r) p.1.2),
        (p.2.0, p.2.1, ap (state_with r) p.2.2),
        changed_inside a r.sides.links p.0 k p.3,
      )
      go (Err a) p = elim p [
        | inl q ↦ inl (q.0, q.1, ap (state_with r) q.2)
        | inr q ↦ inr (state_with r q.0, (q.1.0, q.1.1, ap (state_with r) q.1.2), (q.2.0, q.2.1, ap (state_with r) q.2.2))
      ]

  pub state_still : (link : ℕ) → NoRoundOfLinkChanges r.settings.hold r.sides.links link → BothStandStill v.state link
  state_still link h = subst (λ (z : RelayValue). BothStandStill z.state link) is (h.0, h.1)

-- Less is claimed where fewer relays are without timeouts and limits.

pub lowered : (g : Settings) (time : ℕ) (u less : Bool) (k : Links) → (less ≡ true → u ≡ true) → AreSound g time u k →
    AreSound g time less k
lowered g time u less k down h = record {
  unset = λ e. h.unset (down e);
  sides = λ i d lt. let p = h.sides i d lt in (p.0, p.1, λ e. p.2 (down e));
  gauges = h.gauges;
}

pub lowered_groups : (x : RateGroups) (u less : Bool) (y : GroupsValue) → (less ≡ true → u ≡ true) → HasGroups x u y → HasGroups x less y
lowered_groups x u less y down h = record {
  many = h.many;
  few = h.few;
  in_group = h.in_group;
  out_group = h.out_group;
  none = h.none;
  untimed = λ e. h.untimed (down e);
  shares = h.shares;
}

-- another limit is set, and none where nothing is timed
pub limited_sound : (g : Settings) (time : ℕ) (u : Bool) (turn : ℕ) (k j : Links) (e : SideId) (cfg : Option LimitCfg) →
    (u ≡ true → cfg ≡ None) → AreSound g time u k → j ≡ links.limited time turn e cfg k → AreSound g time u j
limited_sound g time u turn k j e cfg none h is =
    let x : Gauge = links.gauge_at k e in
    let f : PlainSide → PlainSide = λ y. record y { limit = links.limit_set_on x time turn y.limit cfg } in
    let mid : Links = change_side e f k in
    gauge_sound g time u mid j e (gauge_set (links.side_at k e).limit cfg time x)
    (still_sound g time u k mid e f h (λ p. (
      p.0,
      p.1,
      λ t. let q = p.2 t in
          (q.0, q.1, ap (links.limit_set_on x time turn (links.side_at k e).limit) (none t)),
    )) refl refl)
    (gauge_set-time (links.side_at k e).limit cfg time x) (ap (λ (z : Links). z.sides) is) (ap (λ (z : Links). z.gauges) is)
