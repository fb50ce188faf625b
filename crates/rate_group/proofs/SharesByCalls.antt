-- What a member may move after a list of calls, and what a group's members move over a stretch of them.
use Rattle.std.proofs.Common.{◌≡◌, ◌∙◌, inl, inr, ℕ, ◌+◌, ◌-◌, ◌*◌, ◌/◌, ◌<◌, ◌≤◌, Bool, true, false, List, [], ◌++◌, length}
use Rattle.std.proofs.Common.{Option, Some, None, refl, sym, ap, subst, arith, append-nil}
use Rattle.std.specs.Prelude.{◌↔◌, max, if◌then◌else◌, slice_get}
use Rattle.std.specs.Option.{option_map_or}
use Rattle.std.proofs.lemmas.Option.{same_Some}
use Rattle.token_bucket.specs.declared.limit.Dir.{Dir}
use Rattle.token_bucket.specs.declared.limit.LimitCfg.{LimitCfg}
use Rattle.token_bucket.specs.Levels.{limit_of, held}
use Rattle.token_bucket.specs.Spells.{ticks, moved_over}
use Rattle.rate_group.specs.GroupValue.{GroupValue, GroupsValue}
use Rattle.rate_group.specs.Steps.{lane_of, group_of, count_in, share_of, share_in}
use Rattle.rate_group.specs.GroupLaws.{KeptLane, after_steps, WithinShares}
use Rattle.rate_group.specs.GroupsCalls.{GroupsCall, CallsLead, no_groups}
use Rattle.rate_group.specs.ToldByCalls.{Making, calls_with, least_at, beats_since, beats_behind, latest_moment}
use Rattle.rate_group.specs.ToldByCalls.{left_since, IsSuspended}
use Rattle.rate_group.specs.LawsOverCalls.{SharesByCalls, ShareIs, RatesByCalls}
use Rattle.rate_group.proofs.LaneLemmas.{Owes, stretch, least-some_of}
use Rattle.rate_group.proofs.ListsOfCalls.{calls-from}
use Rattle.rate_group.proofs.KnownMembers.{Known, known-all, counted-by}
use Rattle.rate_group.proofs.KeptGroups.{kept_of, share_by, Follows, Lives, lives-none, lives-on}
use Rattle.rate_group.proofs.LevelsByCalls.{Life, life-made, life-on, leads-split, begins, life-left, life-owes, life-tick}
use Rattle.rate_group.proofs.SuspensionsByCalls.{told-all}

-- Shares

-- who has a share
share-none : (x : GroupsValue) (m : ℕ) (d : Dir) → (share_in m d x ≡ None) ↔ (group_of m x.members ≡ None)
share-none x m d = by (group_of m x.members)
  where
    by : (o : Option ℕ) → (share_by x d o ≡ None) ↔ (o ≡ None)
    by None = (λ e. refl, λ e. refl)
    by (Some n) = (λ e. absurd (cc), λ e. absurd (cc))

share-of_group : (g : Making) (d : Dir) (since : List GroupsCall) (v : GroupValue) (count members : ℕ) → (share : Option ℕ) →
    ((lane_of v d).suspended ≡ true) ↔ IsSuspended g d since → held (lane_of v d).level ≡ left_since g d since → v.least ≡ least_at g →
    count ≡ members → share ≡ Some (share_of v d count) → ShareIs g d since members share
share-of_group g d since v count members share told left least same is = by (lane_of v d).suspended refl
  where
    by : (b : Bool) → (lane_of v d).suspended ≡ b → ShareIs g d since members share
    by true e = inl (told.0 e, is ∙ (λ i. Some (if e i then 0 else max (held (lane_of v d).level / count) v.least)))
    by false e = inr (
      (λ s. absurd (let bad : false ≡ true = sym e ∙ told.1 s in cc)),
      is
          ∙ (λ i. Some (if e i then 0 else max (held (lane_of v d).level / count) v.least))
          ∙ (λ i. Some (max (left i / same i) (least i))),
    )

pub shares-by_calls : SharesByCalls
shares-by_calls cs x m d h =
    let k = known-all cs x h in
    let none = share-none x m d in (
      (λ e. sym (k.group m) ∙ none.0 e, λ e. none.1 (k.group m ∙ e)),
      λ g since members is are at.
          let t = told-all g d since x (subst (λ z. CallsLead no_groups z x) is h) in
          let v = t.0.lives.value in
          share-of_group g d since v (count_in g.number x.members) (length members) (share_in m d x) t.1 (life-left g since x d t.0)
          t.0.lives.least (counted-by g.number cs x k members are)
          (ap (share_by x d) (k.group m ∙ at)
          ∙ (λ i. Some (option_map_or (λ g'. share_of g' d (count_in g.number x.members)) (t.0.lives.at i) 0))),
    )

-- Rates

-- the members move no more than that over a stretch of calls
abbrev IsKept : Making → List GroupsCall → List GroupsCall → Dir → Type 0
IsKept g until more d =
    let l = limit_of g.cfg d in
    let from = latest_moment g.moment (beats_since g d until) in
    let to = latest_moment g.moment (beats_since g d (until ++ more)) in
    moved_over (beats_behind g.number d (calls_with g until) more) ≤ l.burst + l.rate * ticks l.tick from to + (least_at g - 1)

-- what a group's members move, from a state of it that owes less than the least share
moved-by : (n : ℕ) (d : Dir) (before cs : List GroupsCall) (v w : GroupValue) (cfg : LimitCfg) (least : ℕ) → v.cfg ≡ cfg →
    v.least ≡ least → 0 < least → Owes (limit_of cfg d) least (lane_of v d) → Follows n d before cs v w →
    moved_over (beats_behind n d before cs)
    ≤ (limit_of cfg d).burst + (limit_of cfg d).rate * (w.tick - v.tick) + (least - 1)
moved-by n d before cs v w cfg least is_cfg is_least some owes f =
    let l = limit_of cfg d in
    let within = subst (λ m. WithinShares l m (kept_of v d) f.steps) is_least
    (subst (λ z. WithinShares (limit_of z d) v.least (kept_of v d) f.steps) is_cfg f.within) in
    let kept : kept_of w d ≡ after_steps l least (kept_of v d) f.steps =
    f.kept ∙ (λ i. after_steps (limit_of (is_cfg i) d) (is_least i) (kept_of v d) f.steps) in
    let most = stretch l least (kept_of v d) f.steps some owes within in
    let moved = ap moved_over f.beats in
    let gain = ap (λ (k : KeptLane). l.rate * (k.tick - v.tick)) kept in
    omega (arith, most, moved, gain)

-- from the state behind the first calls to that behind all
rates-between : (g : Making) (until more : List GroupsCall) (x y : GroupsValue) (d : Dir) (first : Life g until x)
    (last : Life g (until ++ more) y) (w : GroupValue) → slice_get y.groups g.number ≡ Some w →
    Follows g.number d (calls_with g [] ++ until) more first.lives.value w →
    IsKept g until more d
rates-between g until more x y d first last w at f =
    let moved = moved-by g.number d (calls_with g [] ++ until) more first.lives.value w g.cfg (least_at g) first.lives.cfg first.lives.least
    (least-some_of g.cfg g.share first.some) (life-owes g until x d first) f in
    let same = ap (λ z. moved_over (beats_behind g.number d z more)) (calls-from g until) in
    let from = life-tick g until x d first in
    let to = life-tick g (until ++ more) y d last in
    let one = same_Some w last.lives.value (sym at ∙ last.lives.at) in
    let gain = ticks-come w.tick first.lives.value.tick _ _ (ap (λ (z : GroupValue). z.tick) one ∙ sym to) (sym from) in
    omega (arith, moved, same, gain)
  where
    ticks-come : (late early later earlier : ℕ) → late ≡ later → early ≡ earlier →
        (limit_of g.cfg d).rate * (late - early) ≡ (limit_of g.cfg d).rate * (later - earlier)
    ticks-come late early later earlier a b = λ i. (limit_of g.cfg d).rate * (a i - b i)

rates-stretch : (g : Making) (until more : List GroupsCall) (x y : GroupsValue) (d : Dir) → Life g until x → CallsLead x more y →
    IsKept g until more d
rates-stretch g until more x y d first h = by (lives-on g.number (calls_with g [] ++ until) [] more first.lives.value x y
    (subst (λ z. Known z x) (sym (append-nil (calls_with g [] ++ until))) first.known)
    (lives-none g.number (calls_with g [] ++ until) first.lives.value x first.lives.at) h)
  where
    by : Lives g.number (calls_with g [] ++ until) more first.lives.value y →
        IsKept g until more d
    by rest = rates-between g until more x y d first (life-on g until more x y first h) rest.value rest.at (rest.follows d)

pub rates-by_calls : RatesByCalls
rates-by_calls g until more x d h =
    let b = begins g (until ++ more) x h in
    let p = leads-split until more b.1 x b.4 in
    rates-stretch g until more p.0 x d (life-on g [] until b.1 p.0 (life-made g b.0 b.1 b.2 b.3) p.1) p.2
