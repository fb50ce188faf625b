-- One group over a list of calls: each of its directions goes as one that is refilled and whose members move bytes.
use Rattle.std.proofs.Common.{◌≡◌, ◌∙◌, inl, inr, ℕ, zero, suc, ◌≤◌, true, false, List, [], ◌∷◌, length, Option}
use Rattle.std.proofs.Common.{Some, None, refl, sym, ap, subst, nat_eq, append_assoc, append-nil}
use Rattle.std.specs.Prelude.{◌++◌, ◌⊎◌, ◌&&◌, if◌then◌else◌, slice_get, Ok, Err}
use Rattle.std.specs.List.{cons_option}
use Rattle.std.specs.Option.{option_map, option_map_or, IsSomeAnd}
use Rattle.std.proofs.lemmas.Bool.Decides.{eqb_tells}
use Rattle.std.proofs.lemmas.Option.{slice_get-map}
use Rattle.token_bucket.specs.declared.limit.Dir.{Dir}
use Rattle.token_bucket.specs.declared.limit.Dir.TheVariants as dir
use Rattle.token_bucket.specs.Levels.{Limit, limit_of}
use Rattle.token_bucket.specs.Spells.{Moves}
use Rattle.rate_group.specs.GroupValue.{GroupValue, GroupsValue}
use Rattle.rate_group.specs.Steps.{lane_of, group_of, count_in, changed_at, spent_in, made, refilled_to, share_of}
use Rattle.rate_group.specs.GroupLaws.{GroupCall, Refills, Spends, KeptLane, after_step, after_steps, WithinShares, beat_of_call, beats_of}
use Rattle.rate_group.specs.GroupsCalls.{GroupsCall, IsCalled, CallsLead}
use Rattle.rate_group.specs.ToldByCalls.{same_dir, is_in, beat_behind, beats_behind}
use Rattle.rate_group.proofs.ListsOfCalls.{beats-more}
use Rattle.rate_group.proofs.KnownMembers.{Known, known-call}

-- one direction of a group
abbrev pub kept_of : GroupValue → Dir → KeptLane
kept_of v d = record { tick = v.tick; lane = lane_of v d }

-- Lists of one direction's calls

steps-more : (l : Limit) (least : ℕ) (x : KeptLane) (ss : List GroupCall) (s : GroupCall) →
    after_steps l least x (ss ++ s ∷ []) ≡ after_step l least (after_steps l least x ss) s
steps-more l least x [] s = refl
steps-more l least x (r ∷ ss) s = steps-more l least (after_step l least x r) ss s

beats_of-more : (ss : List GroupCall) (s : GroupCall) → beats_of (ss ++ s ∷ []) ≡ beats_of ss ++ beat_of_call s ∷ []
beats_of-more [] s = refl
beats_of-more (r ∷ ss) s = ap (λ z. beat_of_call r ∷ z) (beats_of-more ss s)

within-more : (l : Limit) (least : ℕ) (x : KeptLane) (ss : List GroupCall) (s : GroupCall) → WithinShares l least x ss →
    WithinShares l least (after_steps l least x ss) (s ∷ []) → WithinShares l least x (ss ++ s ∷ [])
within-more l least x [] s w h = h
within-more l least x (Refills now ∷ ss) s w h = within-more l least (after_step l least x (Refills now)) ss s w h
within-more l least x (Spends count n ∷ ss) s w h = (w.0, within-more l least (after_step l least x (Spends count n)) ss s w.1 h)

-- How a call changes a group

-- the call is nothing to this direction of the group
abbrev pub Stays : ℕ → Dir → List GroupsCall → GroupsCall → GroupValue → GroupValue → Type 0
Stays n d before c v w = (beat_behind n d before c ≡ None) × (kept_of w d ≡ kept_of v d)

-- the call refills it, or moves bytes within a share
pub record Steps (n : ℕ) (d : Dir) (before : List GroupsCall) (c : GroupsCall) (v w : GroupValue) : Type 0 where
  pub step : GroupCall
  pub beat : beat_behind n d before c ≡ Some (beat_of_call step)
  pub kept : kept_of w d ≡ after_step (limit_of v.cfg d) v.least (kept_of v d) step
  pub within : WithinShares (limit_of v.cfg d) v.least (kept_of v d) (step ∷ [])

-- the group behind the call
pub record Next (n : ℕ) (before : List GroupsCall) (c : GroupsCall) (v : GroupValue) (y : GroupsValue) : Type 0 where
  pub value : GroupValue
  pub at : slice_get y.groups n ≡ Some value
  pub cfg : value.cfg ≡ v.cfg
  pub least : value.least ≡ v.least
  pub goes : (d : Dir) → Stays n d before c v value ⊎ Steps n d before c v value

slice_get-front : (gs : List GroupValue) (n : ℕ) (v : GroupValue) (more : List GroupValue) → slice_get gs n ≡ Some v →
    slice_get (gs ++ more) n ≡ Some v
slice_get-front [] n v more h = absurd (cc)
slice_get-front (g ∷ gs) zero v more h = h
slice_get-front (g ∷ gs) (suc n) v more h = slice_get-front gs n v more h

pub slice_get-end : (gs : List GroupValue) (v : GroupValue) → slice_get (gs ++ v ∷ []) (length gs) ≡ Some v
slice_get-end [] v = refl
slice_get-end (g ∷ gs) v = slice_get-end gs v

changed-same : (gs : List GroupValue) (n : ℕ) (f : GroupValue → GroupValue) (v : GroupValue) → slice_get gs n ≡ Some v →
    slice_get (changed_at n f gs) n ≡ Some (f v)
changed-same [] n f v h = absurd (cc)
changed-same (g ∷ gs) zero f v h = let e : g ≡ v = cc in ap (λ z. Some (f z)) e
changed-same (g ∷ gs) (suc n) f v h = changed-same gs n f v h

changed-other : (gs : List GroupValue) (n k : ℕ) (f : GroupValue → GroupValue) → (n ≡ k → ⊥) →
    slice_get (changed_at k f gs) n ≡ slice_get gs n
changed-other [] n k f h = refl
changed-other (g ∷ gs) zero zero f h = absurd (h refl)
changed-other (g ∷ gs) zero (suc k) f h = refl
changed-other (g ∷ gs) (suc n) zero f h = refl
changed-other (g ∷ gs) (suc n) (suc k) f h = changed-other gs n k f (λ e. h (ap suc e))

-- a call that is nothing to the group
next-same : (n : ℕ) (before : List GroupsCall) (c : GroupsCall) (v : GroupValue) (y : GroupsValue) → slice_get y.groups n ≡ Some v →
    ((d : Dir) → beat_behind n d before c ≡ None) → Next n before c v y
next-same n before c v y at none = record { value = v; at = at; cfg = refl; least = refl; goes = λ d. inl (none d, refl) }

-- the share of a member of this group, or of none
abbrev pub share_by : GroupsValue → Dir → Option ℕ → Option ℕ
share_by x d o = option_map (λ n. option_map_or (λ g. share_of g d (count_in n x.members)) (slice_get x.groups n) 0) o

-- bytes that a member of the group moved
spends : (n : ℕ) (before : List GroupsCall) (v : GroupValue) (m : ℕ) (e : Dir) (k count : ℕ) → is_in n m before ≡ true →
    k ≤ share_of v e count → (d : Dir) →
    Stays n d before (GroupsCall.Spend m e k) v (spent_in e k v) ⊎ Steps n d before (GroupsCall.Spend m e k) v (spent_in e k v)
spends n before v m dir.Read k count h within dir.Read = inr (record {
  step = Spends count k;
  beat = ap (λ b. if b && true then Some (Moves k) else None) h;
  kept = refl;
  within = (within, tt);
})
spends n before v m dir.Write k count h within dir.Write = inr (record {
  step = Spends count k;
  beat = ap (λ b. if b && true then Some (Moves k) else None) h;
  kept = refl;
  within = (within, tt);
})
spends n before v m dir.Read k count h within dir.Write = inl (ap (λ b. if b && false then Some (Moves k) else None) h, refl)
spends n before v m dir.Write k count h within dir.Read = inl (ap (λ b. if b && false then Some (Moves k) else None) h, refl)

spent-cfg : (e : Dir) (k : ℕ) (v : GroupValue) → (spent_in e k v).cfg ≡ v.cfg
spent-cfg dir.Read k v = refl
spent-cfg dir.Write k v = refl

spent-least : (e : Dir) (k : ℕ) (v : GroupValue) → (spent_in e k v).least ≡ v.least
spent-least dir.Read k v = refl
spent-least dir.Write k v = refl

refills : (n : ℕ) (before : List GroupsCall) (v : GroupValue) (now : ℕ) (d : Dir) →
    Steps n d before (GroupsCall.Refill now) v (refilled_to now v)
refills n before v now dir.Read = record { step = Refills now; beat = refl; kept = refl; within = tt }
refills n before v now dir.Write = record { step = Refills now; beat = refl; kept = refl; within = tt }

pub next-call : (n : ℕ) (before : List GroupsCall) (c : GroupsCall) (x y : GroupsValue) (v : GroupValue) → Known before x →
    slice_get x.groups n ≡ Some v → IsCalled c x y → Next n before c v y
next-call n before (GroupsCall.NewGroup cfg share now (Ok number)) x y v k at h =
    next-same n before (GroupsCall.NewGroup cfg share now (Ok number)) v y
    (ap (λ (z : GroupsValue). slice_get z.groups n) h.2 ∙ slice_get-front x.groups n v (made cfg share now ∷ []) at) (λ d. refl)
next-call n before (GroupsCall.NewGroup cfg share now (Err f)) x y v k at h =
    next-same n before (GroupsCall.NewGroup cfg share now (Err f)) v y (ap (λ (z : GroupsValue). slice_get z.groups n) h.3 ∙ at) (λ d. refl)
next-call n before (GroupsCall.Join group member (Ok done)) x y v k at h =
    next-same n before (GroupsCall.Join group member (Ok done)) v y (ap (λ (z : GroupsValue). slice_get z.groups n) h.1 ∙ at) (λ d. refl)
next-call n before (GroupsCall.Join group member (Err f)) x y v k at h =
    next-same n before (GroupsCall.Join group member (Err f)) v y (ap (λ (z : GroupsValue). slice_get z.groups n) h.2 ∙ at) (λ d. refl)
next-call n before (GroupsCall.Change group member (Ok done)) x y v k at h =
    next-same n before (GroupsCall.Change group member (Ok done)) v y (ap (λ (z : GroupsValue). slice_get z.groups n) h.1 ∙ at) (λ d. refl)
next-call n before (GroupsCall.Change group member (Err f)) x y v k at h =
    next-same n before (GroupsCall.Change group member (Err f)) v y (ap (λ (z : GroupsValue). slice_get z.groups n) h.2 ∙ at) (λ d. refl)
next-call n before (GroupsCall.Leave member (Ok done)) x y v k at h =
    next-same n before (GroupsCall.Leave member (Ok done)) v y (ap (λ (z : GroupsValue). slice_get z.groups n) h.1 ∙ at) (λ d. refl)
next-call n before (GroupsCall.Leave member (Err f)) x y v k at h =
    next-same n before (GroupsCall.Leave member (Err f)) v y (ap (λ (z : GroupsValue). slice_get z.groups n) h.2 ∙ at) (λ d. refl)
next-call n before (GroupsCall.Refill now) x y v k at h = record {
  value = refilled_to now v;
  at =
      ap (λ (z : GroupsValue). slice_get z.groups n) h ∙ slice_get-map (refilled_to now) x.groups n ∙ ap (option_map (refilled_to now)) at;
  cfg = refl;
  least = refl;
  goes = λ d. inr (refills n before v now d);
}
next-call n before (GroupsCall.Spend m e b) x y v k at h = by (group_of m x.members) refl
  where
    c : GroupsCall
    c = GroupsCall.Spend m e b

    -- the member is in the group, or in another
    here : (group : ℕ) → group_of m x.members ≡ Some group → is_in n m before ≡ nat_eq n group
    here group is = ap (λ o. option_map_or (nat_eq n) o false) (sym (k.group m) ∙ is)

    groups : (group : ℕ) → group_of m x.members ≡ Some group → slice_get y.groups n ≡ slice_get (changed_at group (spent_in e b) x.groups) n
    groups group is =
        ap (λ (z : GroupsValue). slice_get z.groups n) h.1
        ∙ ap (λ o. slice_get (option_map_or (λ g. changed_at g (spent_in e b) x.groups) o x.groups) n) is

    within : (group : ℕ) → group_of m x.members ≡ Some group → n ≡ group → b ≤ share_of v e (count_in n x.members)
    within group is same =
        let here : group_of m x.members ≡ Some n = is ∙ ap Some (sym same) in
        let asked : IsSomeAnd (share_by x e (Some n)) (λ share. b ≤ share) =
        subst (λ (o : Option ℕ). IsSomeAnd (share_by x e o) (λ share. b ≤ share)) here h.0 in
        subst (λ (o : Option GroupValue). b ≤ option_map_or (λ g. share_of g e (count_in n x.members)) o 0) at asked

    at_group : (group : ℕ) → group_of m x.members ≡ Some group →
        ((nat_eq n group ≡ true) × (n ≡ group)) ⊎ ((nat_eq n group ≡ false) × (n ≡ group → ⊥)) → Next n before c v y
    at_group group is (inl q) = record {
      value = spent_in e b v;
      at =
          groups group is
          ∙ (λ i. slice_get (changed_at (sym q.1 i) (spent_in e b) x.groups) n)
          ∙ changed-same x.groups n (spent_in e b) v at;
      cfg = spent-cfg e b v;
      least = spent-least e b v;
      goes = λ d. spends n before v m e b (count_in n x.members) (here group is ∙ q.0) (within group is q.1) d;
    }
    at_group group is (inr q) =
        next-same n before c v y (groups group is ∙ changed-other x.groups n group (spent_in e b) q.1 ∙ at)
        (λ d. ap (λ z. if z && same_dir d e then Some (Moves b) else None) (here group is ∙ q.0))

    by : (o : Option ℕ) → group_of m x.members ≡ o → Next n before c v y
    by None is = absurd (subst (λ (o : Option ℕ). IsSomeAnd (share_by x e o) (λ share. b ≤ share)) is h.0)
    by (Some group) is = at_group group is (eqb_tells n group)

-- Over any calls

-- what the calls are to one direction of a group, from one state of it to another
pub record Follows (n : ℕ) (d : Dir) (before cs : List GroupsCall) (v w : GroupValue) : Type 0 where
  pub steps : List GroupCall
  pub beats : beats_of steps ≡ beats_behind n d before cs
  pub kept : kept_of w d ≡ after_steps (limit_of v.cfg d) v.least (kept_of v d) steps
  pub within : WithinShares (limit_of v.cfg d) v.least (kept_of v d) steps

pub follows-none : (n : ℕ) (d : Dir) (before : List GroupsCall) (v : GroupValue) → Follows n d before [] v v
follows-none n d before v = record { steps = []; beats = refl; kept = refl; within = tt }

pub follows-more : (n : ℕ) (d : Dir) (before cs : List GroupsCall) (c : GroupsCall) (v w u : GroupValue) → w.cfg ≡ v.cfg →
    w.least ≡ v.least → Follows n d before cs v w → Stays n d (before ++ cs) c w u ⊎ Steps n d (before ++ cs) c w u →
    Follows n d before (cs ++ c ∷ []) v u
follows-more n d before cs c v w u cfg least f (inl s) = record {
  steps = f.steps;
  beats = f.beats ∙ sym (append-nil (beats_behind n d before cs))
      ∙ (λ i. beats_behind n d before cs ++ cons_option (sym s.0 i) []) ∙ sym (beats-more n d before cs c);
  kept = s.1 ∙ f.kept;
  within = f.within;
}
follows-more n d before cs c v w u cfg least f (inr s) = record {
  steps = f.steps ++ s.step ∷ [];
  beats =
      beats_of-more f.steps s.step
      ∙ (λ i. f.beats i ++ cons_option (sym s.beat i) [])
      ∙ sym (beats-more n d before cs c);
  kept =
      s.kept
      ∙ (λ i. after_step (limit_of (cfg i) d) (least i) (f.kept i) s.step)
      ∙ sym (steps-more (limit_of v.cfg d) v.least (kept_of v d) f.steps s.step);
  within = within-more (limit_of v.cfg d) v.least (kept_of v d) f.steps s.step f.within
      (subst (λ x. WithinShares (limit_of v.cfg d) v.least x (s.step ∷ [])) f.kept
      (subst (λ m. WithinShares (limit_of v.cfg d) m (kept_of w d) (s.step ∷ [])) least
      (subst (λ z. WithinShares (limit_of z d) w.least (kept_of w d) (s.step ∷ [])) cfg s.within)));
}

-- a group where calls led, from one state of it on
pub record Lives (n : ℕ) (before cs : List GroupsCall) (v : GroupValue) (y : GroupsValue) : Type 0 where
  pub value : GroupValue
  pub at : slice_get y.groups n ≡ Some value
  pub cfg : value.cfg ≡ v.cfg
  pub least : value.least ≡ v.least
  pub follows : (d : Dir) → Follows n d before cs v value

abbrev pub lives-none : (n : ℕ) (before : List GroupsCall) (v : GroupValue) (x : GroupsValue) → slice_get x.groups n ≡ Some v →
    Lives n before [] v x
lives-none n before v x at = record { value = v; at = at; cfg = refl; least = refl; follows = λ d. follows-none n d before v }

abbrev pub lives-more : (n : ℕ) (before cs : List GroupsCall) (c : GroupsCall) (v : GroupValue) (x y : GroupsValue)
    (l : Lives n before cs v x) → Next n (before ++ cs) c l.value y → Lives n before (cs ++ c ∷ []) v y
lives-more n before cs c v x y l s = record {
  value = s.value;
  at = s.at;
  cfg = s.cfg ∙ l.cfg;
  least = s.least ∙ l.least;
  follows = λ d. follows-more n d before cs c v l.value s.value l.cfg l.least (l.follows d) (s.goes d);
}

pub lives-on : (n : ℕ) (before cs more : List GroupsCall) (v : GroupValue) (x y : GroupsValue) → Known (before ++ cs) x →
    Lives n before cs v x → CallsLead x more y → Lives n before (cs ++ more) v y
lives-on n before cs [] v x y k l h =
    subst (λ z. Lives n before (cs ++ []) v z) (sym h) (subst (λ z. Lives n before z v x) (sym (append-nil cs)) l)
lives-on n before cs (c ∷ more) v x y k l h =
    subst (λ z. Lives n before z v y) (append_assoc cs (c ∷ []) more)
    (lives-on n before (cs ++ c ∷ []) more v h.0 y
    (subst (λ z. Known z h.0) (append_assoc before cs (c ∷ [])) (known-call (before ++ cs) c x h.0 k h.1))
    (lives-more n before cs c v x h.0 l (next-call n (before ++ cs) c x h.0 l.value k l.at h.1)) h.2)
