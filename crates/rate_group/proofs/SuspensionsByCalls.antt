-- When a group is suspended after a list of calls.
use Rattle.std.proofs.Common.{◌≡◌, ◌∙◌, inl, inr, ℕ, ◌<◌, Bool, true, false, List, [], ◌∷◌, ◌++◌, Some, None, refl, sym}
use Rattle.std.proofs.Common.{ap, subst, arith, append_assoc, append-nil}
use Rattle.std.specs.Prelude.{◌⊎◌, ◌↔◌, ◌&&◌, ◌||◌, ◌==◌, if◌then◌else◌, nat_lt, Ok}
use Rattle.std.specs.Option.{option_map}
use Rattle.std.proofs.lemmas.Bool.{or_cases, or_left, or_right, and_parts, and_from, and_left, eqb-true, eq-eqb, ltb-true, lt-ltb}
use Rattle.std.proofs.lemmas.Bool.{cases_Bool}
use Rattle.token_bucket.specs.declared.limit.Dir.{Dir}
use Rattle.token_bucket.specs.declared.limit.Dir.TheVariants as dir
use Rattle.token_bucket.specs.Levels.{limit_of, held, less}
use Rattle.token_bucket.specs.Spells.{Begins, Moves}
use Rattle.rate_group.specs.GroupValue.{Lane, GroupValue, GroupsValue}
use Rattle.rate_group.specs.Steps.{lane_of, made}
use Rattle.rate_group.specs.GroupLaws.{GroupCall, Refills, Spends, KeptLane, after_step, beat_of_call}
use Rattle.rate_group.specs.GroupsCalls.{GroupsCall, IsCalled, CallsLead, no_groups}
use Rattle.rate_group.specs.ToldByCalls.{Making, calls_with, least_at, same_dir, is_in, beat_behind, left_since, IsSuspended}
use Rattle.rate_group.specs.LawsOverCalls.{SuspensionsByCalls}
use Rattle.rate_group.proofs.ListsOfCalls.{ends-behind, ends-in}
use Rattle.rate_group.proofs.KnownMembers.{Known}
use Rattle.rate_group.proofs.KeptGroups.{kept_of, Stays, Steps, next-call}
use Rattle.rate_group.proofs.LaneLemmas.{least-some_of}
use Rattle.rate_group.proofs.LevelsByCalls.{Life, life-made, life-more, begins, life-left, life-owes}

-- One call more

module _ (g : Making) (d : Dir) where
  -- nothing was left as the last call ended
  suspended-now : (cs : List GroupsCall) → left_since g d cs ≡ 0 → IsSuspended g d cs
  suspended-now cs h = record {
    until = cs;
    rest = [];
    parts = sym (append-nil cs);
    nothing_left = h;
    too_little = λ first now others e. absurd (none first (GroupsCall.Refill now) others e);
  }
    where
      none : (first : List GroupsCall) (c : GroupsCall) (others : List GroupsCall) → [] ≡ first ++ c ∷ others → ⊥
      none [] c others e = absurd (cc)
      none (b ∷ first) c others e = absurd (cc)

  -- it was suspended before the last call
  suspended-before : (cs front : List GroupsCall) (c : GroupsCall) (all : List GroupsCall) (s : IsSuspended g d all) →
      s.rest ≡ front ++ c ∷ [] → cs ≡ s.until ++ front → IsSuspended g d cs
  suspended-before cs front c all s rest parts = record {
    until = s.until;
    rest = front;
    parts = parts;
    nothing_left = s.nothing_left;
    too_little = λ first now others e.
        s.too_little first now (others ++ c ∷ [])
        (rest ∙ (λ i. e i ++ c ∷ []) ∙ append_assoc first (GroupsCall.Refill now ∷ others) (c ∷ []));
  }

  -- it stays suspended at a call, where a refill leaves too little
  suspended-after : (cs : List GroupsCall) (c : GroupsCall) → IsSuspended g d cs →
      ((now : ℕ) → c ≡ GroupsCall.Refill now → left_since g d (cs ++ c ∷ []) < least_at g) → IsSuspended g d (cs ++ c ∷ [])
  suspended-after cs c s little = record {
    until = s.until;
    rest = s.rest ++ c ∷ [];
    parts = (λ i. s.parts i ++ c ∷ []) ∙ append_assoc s.until s.rest (c ∷ []);
    nothing_left = s.nothing_left;
    too_little = λ first now others e. elim (ends-behind s.rest c first (GroupsCall.Refill now) others e) [
      | inl k ↦
          let same : cs ++ c ∷ [] ≡ s.until ++ (first ++ GroupsCall.Refill now ∷ []) =
          (λ i. s.parts i ++ c ∷ []) ∙ append_assoc s.until s.rest (c ∷ []) ∙ (λ i. s.until ++ (k.0 i ++ k.1 i ∷ [])) in
          subst (λ z. left_since g d z < least_at g) same (little now k.1)
      | inr k ↦ s.too_little first now k.0 k.2
    ];
  }

  -- a call that is no refill suspends it where nothing is left
  told-other : (cs : List GroupsCall) (c : GroupsCall) (was now : Bool) → (was ≡ true) ↔ IsSuspended g d cs →
      ((t : ℕ) → c ≡ GroupsCall.Refill t → ⊥) → (now ≡ true) ↔ ((was ≡ true) ⊎ (left_since g d (cs ++ c ∷ []) ≡ 0)) →
      (now ≡ true) ↔ IsSuspended g d (cs ++ c ∷ [])
  told-other cs c was now told other is = (to, from)
    where
      to : now ≡ true → IsSuspended g d (cs ++ c ∷ [])
      to h = elim (is.0 h) [
        | inl k ↦ suspended-after cs c (told.0 k) (λ t e. absurd (other t e))
        | inr k ↦ suspended-now (cs ++ c ∷ []) k
      ]

      from : IsSuspended g d (cs ++ c ∷ []) → now ≡ true
      from s = elim (ends-in cs c s.until s.rest s.parts) [
        | inl k ↦ is.1 (inr (ap (left_since g d) (sym k.1) ∙ s.nothing_left))
        | inr k ↦ is.1 (inl (told.1 (suspended-before cs k.0 c (cs ++ c ∷ []) s k.1 k.2)))
      ]

  -- a refill ends it where it leaves the least share
  told-refill : (cs : List GroupsCall) (time : ℕ) (was now : Bool) → 0 < least_at g → (was ≡ true) ↔ IsSuspended g d cs →
      (left_since g d (cs ++ GroupsCall.Refill time ∷ []) ≡ 0 → was ≡ true) →
      (now ≡ true) ↔ ((was ≡ true) × (left_since g d (cs ++ GroupsCall.Refill time ∷ []) < least_at g)) →
      (now ≡ true) ↔ IsSuspended g d (cs ++ GroupsCall.Refill time ∷ [])
  told-refill cs time was now some told none is = (to, from)
    where
      c : GroupsCall
      c = GroupsCall.Refill time

      to : now ≡ true → IsSuspended g d (cs ++ c ∷ [])
      to h = let k = is.0 h in suspended-after cs c (told.0 k.0) (λ t e. k.1)

      from : IsSuspended g d (cs ++ c ∷ []) → now ≡ true
      from s = elim (ends-in cs c s.until s.rest s.parts) [
        | inl k ↦
            let nothing : left_since g d (cs ++ c ∷ []) ≡ 0 = ap (left_since g d) (sym k.1) ∙ s.nothing_left in
            is.1 (none nothing, omega (arith, nothing, some))
        | inr k ↦
            let same : s.until ++ (k.0 ++ c ∷ []) ≡ cs ++ c ∷ [] =
            sym (append_assoc s.until k.0 (c ∷ [])) ∙ (λ i. sym k.2 i ++ c ∷ []) in
            is.1 (
              told.1 (suspended-before cs k.0 c (cs ++ c ∷ []) s k.1 k.2),
              subst (λ z. left_since g d z < least_at g) same (s.too_little k.0 time [] k.1),
            )
      ]

-- What the group keeps

-- what is a refill for a group is a refill
refill-is : (n : ℕ) (d : Dir) (before : List GroupsCall) (c : GroupsCall) (time : ℕ) → beat_behind n d before c ≡ Some (Begins time) →
    c ≡ GroupsCall.Refill time
refill-is n d before (GroupsCall.Refill now) time h = let e : now ≡ time = cc in λ i. GroupsCall.Refill (e i)
refill-is n d before (GroupsCall.Spend m e k) time h = by (is_in n m before && same_dir d e) h
  where
    by : (b : Bool) → (if b then Some (Moves k) else None) ≡ Some (Begins time) → GroupsCall.Spend m e k ≡ GroupsCall.Refill time
    by true q = absurd (cc)
    by false q = absurd (cc)
refill-is n d before (GroupsCall.NewGroup cfg share now answer) time h = absurd (cc)
refill-is n d before (GroupsCall.Join group m answer) time h = absurd (cc)
refill-is n d before (GroupsCall.Change group m answer) time h = absurd (cc)
refill-is n d before (GroupsCall.Leave m answer) time h = absurd (cc)

refill-begins : (n : ℕ) (d : Dir) (before : List GroupsCall) (c : GroupsCall) (time : ℕ) → c ≡ GroupsCall.Refill time →
    beat_behind n d before c ≡ Some (Begins time)
refill-begins n d before c time h = ap (beat_behind n d before) h

-- a direction that isn't suspended has something left
left-some : (g : Making) (cs : List GroupsCall) (x : GroupsValue) (d : Dir) (l : Life g cs x) →
    (lane_of l.lives.value d).suspended ≡ false → 0 < held (lane_of l.lives.value d).level
left-some g cs x d l h =
    let o = life-owes g cs x d l in
    let goes = o.goes h in
    let burst = o.burst in
    omega (arith, goes, burst)

-- the group is suspended as the calls tell
abbrev pub Told : Making → Dir → List GroupsCall → GroupsValue → Type 0
Told g d cs x = (l : Life g cs x) × (((lane_of l.lives.value d).suspended ≡ true) ↔ IsSuspended g d cs)

-- one call more, by what it is to the group
module _ (g : Making) (d : Dir) (cs : List GroupsCall) (c : GroupsCall) (x y : GroupsValue) (l : Life g cs x)
    (m : Life g (cs ++ c ∷ []) y) (told : ((lane_of l.lives.value d).suspended ≡ true) ↔ IsSuspended g d cs) where
  was : Lane
  was = lane_of l.lives.value d

  now : Lane
  now = lane_of m.lives.value d

  left : held now.level ≡ left_since g d (cs ++ c ∷ [])
  unfolding now
  left = life-left g (cs ++ c ∷ []) y d m

  -- the call is nothing to it
  told-stays : Stays g.number d (calls_with g [] ++ cs) c l.lives.value m.lives.value →
      (now.suspended ≡ true) ↔ IsSuspended g d (cs ++ c ∷ [])
  unfolding was now
  told-stays s = told-other g d cs c was.suspended now.suspended told (λ t e.
      absurd (let bad : None ≡ Some (Begins t) = sym s.0 ∙ refill-begins g.number d (calls_with g [] ++ cs) c t e in cc))
      (λ h. inl (sym same ∙ h), from)
    where
      same : now.suspended ≡ was.suspended
      same = ap (λ (k : KeptLane). k.lane.suspended) s.1

      from : (was.suspended ≡ true) ⊎ (left_since g d (cs ++ c ∷ []) ≡ 0) → now.suspended ≡ true
      from (inl k) = same ∙ k
      from (inr z) = elim (cases_Bool was.suspended) [
        | inl k ↦ same ∙ k
        | inr k ↦ absurd (
            let some = left-some g cs x d l k in
            let level = ap (λ (k : KeptLane). held k.lane.level) s.1 in
            let is = left in
            omega (arith, some, level, is, z))
      ]

  -- its members move bytes
  told-spends : (count n : ℕ) → beat_behind g.number d (calls_with g [] ++ cs) c ≡ Some (Moves n) →
      kept_of m.lives.value d
      ≡ after_step (limit_of l.lives.value.cfg d) l.lives.value.least (kept_of l.lives.value d) (Spends count n) →
      (now.suspended ≡ true) ↔ IsSuspended g d (cs ++ c ∷ [])
  unfolding was now
  told-spends count n beat kept = told-other g d cs c was.suspended now.suspended told (λ t e.
      absurd (let bad : Some (Moves n) ≡ Some (Begins t) = sym beat ∙ refill-begins g.number d (calls_with g [] ++ cs) c t e in cc))
      (to, from)
    where
      flag : now.suspended ≡ (was.suspended || (held (less n was.level) == 0))
      flag = ap (λ (k : KeptLane). k.lane.suspended) kept

      level : held (less n was.level) ≡ left_since g d (cs ++ c ∷ [])
      level = ap (λ (k : KeptLane). held k.lane.level) (sym kept) ∙ left

      to : now.suspended ≡ true → (was.suspended ≡ true) ⊎ (left_since g d (cs ++ c ∷ []) ≡ 0)
      to h = elim (or_cases was.suspended (held (less n was.level) == 0) (sym flag ∙ h)) [
        | inl k ↦ inl k
        | inr k ↦ inr (sym level ∙ eqb-true (held (less n was.level)) 0 k)
      ]

      from : (was.suspended ≡ true) ⊎ (left_since g d (cs ++ c ∷ []) ≡ 0) → now.suspended ≡ true
      from (inl k) = flag ∙ or_left was.suspended (held (less n was.level) == 0) k
      from (inr z) = flag ∙ or_right was.suspended (held (less n was.level) == 0) (eq-eqb (held (less n was.level)) 0 (level ∙ z))

  -- it is refilled
  told-refills : (time : ℕ) → beat_behind g.number d (calls_with g [] ++ cs) c ≡ Some (Begins time) →
      kept_of m.lives.value d
      ≡ after_step (limit_of l.lives.value.cfg d) l.lives.value.least (kept_of l.lives.value d) (Refills time) →
      (now.suspended ≡ true) ↔ IsSuspended g d (cs ++ c ∷ [])
  unfolding was now
  told-refills time beat kept =
      subst (λ z. (now.suspended ≡ true) ↔ IsSuspended g d (cs ++ z ∷ [])) (sym is)
      (told-refill g d cs time was.suspended now.suspended (least-some_of g.cfg g.share l.some) told
      (λ e. none (same ∙ e)) (
        (λ h. let k = to h in (k.0, subst (λ z. z < least_at g) same k.1)),
        (λ h. from h.0 (subst (λ z. z < least_at g) (sym same) h.1)),
      ))
    where
      is : c ≡ GroupsCall.Refill time
      is = refill-is g.number d (calls_with g [] ++ cs) c time beat

      same : left_since g d (cs ++ c ∷ []) ≡ left_since g d (cs ++ GroupsCall.Refill time ∷ [])
      same = ap (λ z. left_since g d (cs ++ z ∷ [])) is

      behind : Lane
      behind = (after_step (limit_of l.lives.value.cfg d) l.lives.value.least (kept_of l.lives.value d) (Refills time)).lane

      flag : now.suspended ≡ (was.suspended && nat_lt (held behind.level) l.lives.value.least)
      flag = ap (λ (k : KeptLane). k.lane.suspended) kept

      level : held behind.level ≡ left_since g d (cs ++ c ∷ [])
      level = ap (λ (k : KeptLane). held k.lane.level) (sym kept) ∙ left

      least : l.lives.value.least ≡ least_at g
      least = l.lives.least

      none : left_since g d (cs ++ c ∷ []) ≡ 0 → was.suspended ≡ true
      none z = elim (cases_Bool was.suspended) [
        | inl k ↦ k
        | inr k ↦ absurd (
            let not : now.suspended ≡ false = flag ∙ and_left was.suspended (nat_lt (held behind.level) l.lives.value.least) k in
            let some = left-some g (cs ++ c ∷ []) y d m not in
            let is = left in
            omega (arith, some, is, z))
      ]

      to : now.suspended ≡ true → (was.suspended ≡ true) × (left_since g d (cs ++ c ∷ []) < least_at g)
      to h =
          let k = and_parts was.suspended (nat_lt (held behind.level) l.lives.value.least) (sym flag ∙ h) in
          let lt = ltb-true (held behind.level) l.lives.value.least k.1 in
          let a = level in
          let b = least in
          (k.0, omega (arith, lt, a, b))

      from : was.suspended ≡ true → left_since g d (cs ++ c ∷ []) < least_at g → now.suspended ≡ true
      from k h =
          let a = level in
          let b = least in
          flag ∙ and_from was.suspended (nat_lt (held behind.level) l.lives.value.least) k
          (lt-ltb (held behind.level) l.lives.value.least (omega (arith, h, a, b)))

  told-step : (s : GroupCall) → beat_behind g.number d (calls_with g [] ++ cs) c ≡ Some (beat_of_call s) →
      kept_of m.lives.value d ≡ after_step (limit_of l.lives.value.cfg d) l.lives.value.least (kept_of l.lives.value d) s →
      (now.suspended ≡ true) ↔ IsSuspended g d (cs ++ c ∷ [])
  told-step (Spends count n) beat kept = told-spends count n beat kept
  told-step (Refills time) beat kept = told-refills time beat kept

  told-call : Stays g.number d (calls_with g [] ++ cs) c l.lives.value m.lives.value
      ⊎ Steps g.number d (calls_with g [] ++ cs) c l.lives.value m.lives.value →
      ((lane_of m.lives.value d).suspended ≡ true) ↔ IsSuspended g d (cs ++ c ∷ [])
  unfolding now
  told-call (inl s) = told-stays s
  told-call (inr s) = told-step s.step s.beat s.kept

-- Any calls

told-on : (g : Making) (d : Dir) (cs more : List GroupsCall) (x y : GroupsValue) → Told g d cs x → CallsLead x more y →
    Told g d (cs ++ more) y
told-on g d cs [] x y t h =
    subst (λ z. Told g d (cs ++ []) z) (sym h) (subst (λ z. Told g d z x) (sym (append-nil cs)) t)
told-on g d cs (c ∷ more) x y t h =
    let next = next-call g.number (calls_with g [] ++ cs) c x h.0 t.0.lives.value t.0.known t.0.lives.at h.1 in
    let life : Life g (cs ++ c ∷ []) h.0 = life-more g cs c x h.0 t.0 h.1 next in
    subst (λ z. Told g d z y) (append_assoc cs (c ∷ []) more)
    (told-on g d (cs ++ c ∷ []) more h.0 y (life, told-call g d cs c x h.0 t.0 life t.1 (next.goes d)) h.2)

told-none : (g : Making) (d : Dir) (x y : GroupsValue) → Known g.before x →
    IsCalled (GroupsCall.NewGroup g.cfg g.share g.moment (Ok g.number)) x y → Told g d [] y
told-none g d x y k h =
    let l = life-made g x y k h in
    let not : (lane_of l.lives.value d).suspended ≡ false = first d in
    let some = left-some g [] y d l not in
    let left = life-left g [] y d l in (
      l,
      (
        λ e. absurd (let bad : false ≡ true = sym not ∙ e in cc),
        λ s. absurd (
            let none = at_start s.until s.rest s.parts in
            let nothing : left_since g d [] ≡ 0 = ap (left_since g d) (sym none) ∙ s.nothing_left in
            omega (arith, some, left, nothing)),
      ),
    )
  where
    first : (e : Dir) → (lane_of (made g.cfg g.share g.moment) e).suspended ≡ false
    first dir.Read = refl
    first dir.Write = refl

    at_start : (a b : List GroupsCall) → [] ≡ a ++ b → a ≡ []
    at_start [] b e = refl
    at_start (c ∷ a) b e = absurd (cc)

pub told-all : (g : Making) (d : Dir) (since : List GroupsCall) (x : GroupsValue) → CallsLead no_groups (calls_with g since) x →
    Told g d since x
told-all g d since x h = let b = begins g since x h in told-on g d [] since b.1 x (told-none g d b.0 b.1 b.2 b.3) b.4

pub suspensions-by_calls : SuspensionsByCalls
suspensions-by_calls g since x d h =
    let t = told-all g d since x h in
    let at = ap (option_map (λ (v : GroupValue). (lane_of v d).suspended)) t.0.lives.at in
    (λ e. t.1.0 (let same : Some (lane_of t.0.lives.value d).suspended ≡ Some true = sym at ∙ e in cc), λ s. at ∙ ap Some (t.1.1 s))
