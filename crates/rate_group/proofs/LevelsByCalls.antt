-- One group from its making on, and what it has left after a list of calls.
use Rattle.std.proofs.Common.{◌≡◌, ◌∙◌, inl, inr, ℕ, ◌+◌, ◌-◌, ◌*◌, ◌/◌, ◌<◌, ◌≤◌, Bool, true, false, List, [], ◌∷◌, ◌++◌, length}
use Rattle.std.proofs.Common.{Option, Some, None, refl, sym, ap, subst, arith, append_assoc, append-nil}
use Rattle.std.specs.Prelude.{◌⊎◌, ◌==◌, ◌^◌, max, if◌then◌else◌, nat_lt, slice_get, Ok}
use Rattle.std.specs.Option.{option_map}
use Rattle.std.proofs.Math.Nat.{div-mul-le_self}
use Rattle.std.proofs.lemmas.Nat.{le-div}
use Rattle.std.proofs.lemmas.Bool.{cases_lt}
use Rattle.std.proofs.lemmas.Bool.Decides.{eqb_tells}
use Rattle.std.proofs.lemmas.List.Sums.{sum_by-cons}
use Rattle.token_bucket.specs.declared.limit.Dir.{Dir}
use Rattle.token_bucket.specs.declared.limit.Dir.TheVariants as dir
use Rattle.token_bucket.specs.declared.limit.LimitCfg.{LimitCfg}
use Rattle.token_bucket.specs.Levels.{Limit, limit_of, held}
use Rattle.token_bucket.specs.Spells.{Spell, Beat, Begins, Moves, moved_over, moved_first, moved_in, since_each, least_with, spells}
use Rattle.rate_group.specs.declared.fault.GroupFault.{GroupFault}
use Rattle.rate_group.specs.declared.fault.GroupFault.TheVariants as fault
use Rattle.rate_group.specs.GroupValue.{GroupValue, GroupsValue}
use Rattle.rate_group.specs.Steps.{lane_of, made}
use Rattle.rate_group.specs.Refusals.{new_group_refusal}
use Rattle.rate_group.specs.GroupLaws.{GroupCall, Refills, Spends, KeptLane, after_step, after_steps, made_lane, beats_of, WithinShares}
use Rattle.rate_group.specs.GroupsCalls.{GroupsCall, IsCalled, CallsLead, no_groups}
use Rattle.rate_group.specs.ToldByCalls.{Making, calls_with, least_at, beats_since, latest_moment, left_after, left_since}
use Rattle.rate_group.specs.LawsOverCalls.{LevelsByCalls}
use Rattle.rate_group.proofs.LaneLemmas.{Owes, steps-owe, made-owes, least-some_of, group-level_is_least}
use Rattle.rate_group.proofs.KnownMembers.{Known, known-call, known-calls, known-none}
use Rattle.rate_group.proofs.KeptGroups.{kept_of, slice_get-end, Lives, lives-none, lives-more, lives-on, Next}

-- One direction

div-mono : (a b k : ℕ) → 0 < k → a ≤ b → a / k ≤ b / k
div-mono a b k some h = le-div (a / k) b k some (let p = div-mul-le_self a k in omega (arith, p, h))

div-max : (a b k : ℕ) → 0 < k → max a b / k ≡ max (a / k) (b / k)
div-max a b k some = elim (cases_lt a b) [
  | inl h ↦
      let up = div-mono a b k some (omega (arith, h)) in
      let same : max a b ≡ b = omega (arith, h) in
      ap (λ z. z / k) same ∙ omega (arith, up)
  | inr h ↦
      let up = div-mono b a k some h in
      let same : max a b ≡ a = omega (arith, h) in
      ap (λ z. z / k) same ∙ omega (arith, up)
]

-- the tick of a direction is that of the latest moment
pub latest-tick : (l : Limit) (least time : ℕ) (x : KeptLane) (ss : List GroupCall) → 0 < l.tick → time / l.tick ≡ x.tick →
    latest_moment time (beats_of ss) / l.tick ≡ (after_steps l least x ss).tick
latest-tick l least time x [] some h = h
latest-tick l least time x (Refills now ∷ ss) some h =
    latest-tick l least (max time now) (after_step l least x (Refills now)) ss some
    (div-max time now l.tick some ∙ (λ i. max (h i) (now / l.tick)))
latest-tick l least time x (Spends count n ∷ ss) some h = latest-tick l least time (after_step l least x (Spends count n)) ss some h

moved-all : (bs : List Beat) → moved_first bs + moved_in (spells bs) ≡ moved_over bs
moved-all [] = refl
moved-all (Moves n ∷ bs) = let k = moved-all bs in omega (arith, k)
moved-all (Begins now ∷ bs) =
    let k = moved-all bs in
    let sum = sum_by-cons (λ (y : Spell). y.moved) (record { time = now; moved = moved_first bs }) (spells bs) in
    let all : moved_in (record { time = now; moved = moved_first bs } ∷ spells bs) ≡ moved_first bs + moved_in (spells bs) = sum in
    omega (arith, k, all)

pub tick-some : (cfg : LimitCfg) (d : Dir) → 0 < (limit_of cfg d).tick
tick-some cfg dir.Read = cfg.ticks
tick-some cfg dir.Write = cfg.ticks

left-of : (cfg : LimitCfg) (d : Dir) (least made_at : ℕ) (ss : List GroupCall) →
    held (after_steps (limit_of cfg d) least (made_lane (limit_of cfg d) made_at) ss).lane.level
    ≡ left_after (limit_of cfg d) made_at (beats_of ss)
left-of cfg d least made_at ss =
    let l = limit_of cfg d in
    let time : ℕ = latest_moment made_at (beats_of ss) in
    group-level_is_least cfg d least made_at ss time (latest-tick l least made_at (made_lane l made_at) ss (tick-some cfg d) refl)
    ∙ (λ i. least_with (l.rate + l.rate * (time / l.tick - made_at / l.tick) - moved-all (beats_of ss) i)
    (since_each l time (spells (beats_of ss))))

-- A group

kept-made : (cfg : LimitCfg) (share now : ℕ) (d : Dir) → kept_of (made cfg share now) d ≡ made_lane (limit_of cfg d) now
kept-made cfg share now dir.Read = refl
kept-made cfg share now dir.Write = refl

abbrev pub made_by : Making → GroupValue
made_by g = made g.cfg g.share g.moment

-- a group where calls led since it was made
pub record Life (g : Making) (since : List GroupsCall) (x : GroupsValue) : Type 0 where
  pub known : Known (calls_with g [] ++ since) x
  pub some : 0 < g.share
  pub lives : Lives g.number (calls_with g []) since (made_by g) x

pub share-some : (share : ℕ) (x : GroupsValue) → new_group_refusal share x ≡ None → 0 < share
share-some share x h = by share (eqb_tells share 0) h
  where
    positive : (n : ℕ) → (n ≡ 0 → ⊥) → 0 < n
    positive n h = omega (arith, h)

    refusal : Bool → Option GroupFault
    refusal b = if b then Some fault.BadShare else (if nat_lt (length x.groups) (2 ^ 32) then None else Some fault.Spent)

    by : (n : ℕ) → ((n == 0) ≡ true) × (n ≡ 0) ⊎ ((n == 0) ≡ false) × (n ≡ 0 → ⊥) → refusal (n == 0) ≡ None → 0 < n
    by n (inl e) k = absurd (let bad : Some fault.BadShare ≡ None = sym (ap refusal e.0) ∙ k in cc)
    by n (inr e) k = positive n e.1

abbrev pub life-made : (g : Making) (x y : GroupsValue) → Known g.before x →
    IsCalled (GroupsCall.NewGroup g.cfg g.share g.moment (Ok g.number)) x y → Life g [] y
life-made g x y k h = record {
  known = subst (λ l. Known l y) (sym (append-nil (calls_with g [])))
      (known-call g.before (GroupsCall.NewGroup g.cfg g.share g.moment (Ok g.number)) x y k h);
  some = share-some g.share x h.0;
  lives = lives-none g.number (calls_with g []) (made_by g) y
      (ap (λ (z : GroupsValue). slice_get z.groups g.number) h.2
      ∙ (λ i. slice_get (x.groups ++ made_by g ∷ []) (h.1 i))
      ∙ slice_get-end x.groups (made_by g));
}

abbrev pub life-more : (g : Making) (since : List GroupsCall) (c : GroupsCall) (x y : GroupsValue) (l : Life g since x) → IsCalled c x y →
    Next g.number (calls_with g [] ++ since) c l.lives.value y → Life g (since ++ c ∷ []) y
life-more g since c x y l h n = record {
  known = subst (λ z. Known z y) (append_assoc (calls_with g []) since (c ∷ [])) (known-call (calls_with g [] ++ since) c x y l.known h);
  some = l.some;
  lives = lives-more g.number (calls_with g []) since c (made_by g) x y l.lives n;
}

pub life-on : (g : Making) (since more : List GroupsCall) (x y : GroupsValue) → Life g since x → CallsLead x more y →
    Life g (since ++ more) y
life-on g since more x y l h = record {
  known = subst (λ z. Known z y) (append_assoc (calls_with g []) since more) (known-calls (calls_with g [] ++ since) more x y l.known h);
  some = l.some;
  lives = lives-on g.number (calls_with g []) since more (made_by g) x y l.known l.lives h;
}

pub leads-split : (first more : List GroupsCall) (x y : GroupsValue) → CallsLead x (first ++ more) y →
    (z : GroupsValue) × CallsLead x first z × CallsLead z more y
leads-split [] more x y h = (x, refl, h)
leads-split (c ∷ first) more x y h = let k = leads-split first more h.0 y h.2 in (k.0, (h.0, h.1, k.1), k.2)

-- the calls lead first to a group that is made
pub begins : (g : Making) (since : List GroupsCall) (x : GroupsValue) → CallsLead no_groups (calls_with g since) x →
    (y z : GroupsValue) × Known g.before y × IsCalled (GroupsCall.NewGroup g.cfg g.share g.moment (Ok g.number)) y z × CallsLead z since x
begins g since x h =
    let k = leads-split g.before (GroupsCall.NewGroup g.cfg g.share g.moment (Ok g.number) ∷ since) no_groups x h in
    (k.0, k.2.0, known-calls [] g.before no_groups k.0 known-none k.1, k.2.1, k.2.2)

pub life-all : (g : Making) (since : List GroupsCall) (x : GroupsValue) → CallsLead no_groups (calls_with g since) x → Life g since x
life-all g since x h = let b = begins g since x h in life-on g [] since b.1 x (life-made g b.0 b.1 b.2 b.3) b.4

-- What it has left, and what it owes

life-kept : (g : Making) (since : List GroupsCall) (x : GroupsValue) (d : Dir) (l : Life g since x) →
    kept_of l.lives.value d
    ≡ after_steps (limit_of g.cfg d) (least_at g) (made_lane (limit_of g.cfg d) g.moment) (l.lives.follows d).steps
life-kept g since x d l =
    let f = l.lives.follows d in
    f.kept ∙ (λ i. after_steps (limit_of g.cfg d) (least_at g) (kept-made g.cfg g.share g.moment d i) f.steps)

pub life-left : (g : Making) (since : List GroupsCall) (x : GroupsValue) (d : Dir) (l : Life g since x) →
    held (lane_of l.lives.value d).level ≡ left_since g d since
life-left g since x d l =
    let f = l.lives.follows d in
    ap (λ (k : KeptLane). held k.lane.level) (life-kept g since x d l)
    ∙ left-of g.cfg d (least_at g) g.moment f.steps
    ∙ ap (left_after (limit_of g.cfg d) g.moment) f.beats

pub life-tick : (g : Making) (since : List GroupsCall) (x : GroupsValue) (d : Dir) (l : Life g since x) →
    latest_moment g.moment (beats_since g d since) / (limit_of g.cfg d).tick ≡ l.lives.value.tick
life-tick g since x d l =
    let f = l.lives.follows d in
    let limit = limit_of g.cfg d in
    ap (λ bs. latest_moment g.moment bs / limit.tick) (sym f.beats)
    ∙ latest-tick limit (least_at g) g.moment (made_lane limit g.moment) f.steps (tick-some g.cfg d) refl
    ∙ ap (λ (k : KeptLane). k.tick) (sym (life-kept g since x d l))

pub life-owes : (g : Making) (since : List GroupsCall) (x : GroupsValue) (d : Dir) (l : Life g since x) →
    Owes (limit_of g.cfg d) (least_at g) (lane_of l.lives.value d)
life-owes g since x d l =
    let f = l.lives.follows d in
    let limit = limit_of g.cfg d in
    subst (λ (k : KeptLane). Owes limit (least_at g) k.lane) (sym (life-kept g since x d l))
    (steps-owe limit (least_at g) (made_lane limit g.moment) f.steps (least-some_of g.cfg g.share l.some)
    (made-owes g.cfg g.share d l.some)
    (subst (λ k. WithinShares limit (least_at g) k f.steps) (kept-made g.cfg g.share g.moment d) f.within))

pub levels-by_calls : LevelsByCalls
levels-by_calls g since x d h =
    let l = life-all g since x h in
    ap (option_map (λ (v : GroupValue). held (lane_of v d).level)) l.lives.at ∙ ap Some (life-left g since x d l)
