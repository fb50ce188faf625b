-- One direction of a group over lists of calls.
use Rattle.std.proofs.Common.{◌≡◌, ◌∙◌, inl, inr, ℕ, zero, suc, ◌+◌, ◌-◌, ◌*◌, ◌/◌, ◌<◌, ◌≤◌, Bool, true, false, ◌||◌, ◌&&◌}
use Rattle.std.proofs.Common.{List, [], ◌∷◌, ◌++◌, refl, sym, ap, subst, arith}
use Rattle.std.specs.Prelude.{max, ◌==◌, if◌then◌else◌}
use Rattle.std.proofs.Math.Nat.{div-le_self}
use Rattle.std.proofs.lemmas.Bool.{ltb-false}
use Rattle.std.proofs.lemmas.Bool.Decides.{eqb_tells}
use Rattle.token_bucket.specs.declared.limit.Dir.{Dir}
use Rattle.token_bucket.specs.declared.limit.Dir.TheVariants as dir
use Rattle.token_bucket.specs.declared.limit.LimitCfg.{LimitCfg}
use Rattle.token_bucket.specs.declared.level.Level.{Level}
use Rattle.token_bucket.specs.Levels.{Limit, limit_of, refilled, with_ticks, less, held}
use Rattle.token_bucket.specs.Spells.{moved_over, since_each, least_with, spells}
use Rattle.token_bucket.specs.BucketLaws.{Kept, after_beats, kept_at}
use Rattle.token_bucket.proofs.BucketLemmas.{level-is_least, moved-short}
use Rattle.rate_group.specs.GroupValue.{Lane}
use Rattle.rate_group.specs.Steps.{lane_less, lane_refilled, first_lane, least_of}
use Rattle.rate_group.specs.GroupLaws.{GroupCall, Refills, Spends, KeptLane, after_step, after_steps, made_lane, WithinShares}
use Rattle.rate_group.specs.GroupLaws.{beats_of, GroupLevelIsLeast, GroupKeepsRate}

-- as a bucket keeps it
abbrev pub bucket_of : KeptLane → Kept
bucket_of x = record { tick = x.tick; level = x.lane.level }

-- a direction of a group has the level of a bucket with the same calls
pub lane-follows : (l : Limit) (least : ℕ) (x : KeptLane) (ss : List GroupCall) →
    bucket_of (after_steps l least x ss) ≡ after_beats l (bucket_of x) (beats_of ss)
lane-follows l least x [] = refl
lane-follows l least x (Refills now ∷ ss) = lane-follows l least (after_step l least x (Refills now)) ss
lane-follows l least x (Spends count n ∷ ss) = lane-follows l least (after_step l least x (Spends count n)) ss

-- Debts

-- a direction owes less than the least share, and nothing while it isn't suspended
pub record Owes (l : Limit) (least : ℕ) (x : Lane) : Type 0 where
  pub burst : x.level.burst ≡ l.burst
  pub debt : x.level.short < l.burst + least
  pub goes : x.suspended ≡ false → x.level.short < l.burst

or-false : (a b : Bool) → (a || b) ≡ false → (a ≡ false) × (b ≡ false)
or-false false false h = (refl, refl)
or-false false true h = absurd (cc)
or-false true b h = absurd (cc)

not_zero : (n : ℕ) → (n == 0) ≡ false → 0 < n
not_zero n h = elim (eqb_tells n 0) [
  | inl k ↦ absurd (let t = k.0 in let bad : true ≡ false = sym t ∙ h in cc)
  | inr k ↦ by n k.1
]
  where
    by : (m : ℕ) → (m ≡ 0 → ⊥) → 0 < m
    by zero q = absurd (q refl)
    by (suc m) q = omega arith

-- bytes within a share
less-owes : (l : Limit) (least count n : ℕ) (x : Lane) → 0 < least → Owes l least x →
    n ≤ (if x.suspended then 0 else max (held x.level / count) least) → Owes l least (lane_less n x)
less-owes l least count n x some h within = by x.suspended refl
  where
    by : (b : Bool) → x.suspended ≡ b → Owes l least (lane_less n x)
    by true e =
        let none : n ≤ 0 = subst (λ b. n ≤ (if b then 0 else max (held x.level / count) least)) e within in
        let debt = h.debt in
        record {
          burst = h.burst;
          debt = omega (arith, debt, none);
          goes = λ f. absurd (let k = or-false x.suspended _ f in let t = k.0 in let bad : true ≡ false = sym e ∙ t in cc);
        }
    by false e =
        let most : n ≤ max (held x.level / count) least = subst (λ b. n ≤ (if b then 0 else max (held x.level / count) least)) e within in
        let part = div-le_self (held x.level) count in
        let goes = h.goes e in
        let burst = h.burst in
        record {
          burst = h.burst;
          debt = omega (arith, most, part, goes, burst, some);
          goes = λ f. let k = or-false x.suspended _ f in let left = not_zero (held (less n x.level)) k.1 in omega (arith, left, burst);
        }

-- what a refill leaves
level-refilled : (l : Limit) (n : ℕ) (x : Level) → x.burst ≡ l.burst → (refilled l n x).burst ≡ l.burst
level-refilled l n x h = by (n == 0)
  where
    by : (b : Bool) → (if b then x else with_ticks l n x).burst ≡ l.burst
    by true = h
    by false = refl

short-refilled : (l : Limit) (n : ℕ) (x : Level) → x.burst ≡ l.burst → (refilled l n x).short ≤ x.short
short-refilled l n x h = by (n == 0)
  where
    by : (b : Bool) → (if b then x else with_ticks l n x).short ≤ x.short
    by true = omega arith
    by false = omega (arith, h)

and-false : (a b : Bool) → (a && b) ≡ false → (a ≡ true) → b ≡ false
and-false true b h e = h
and-false false b h e = absurd (cc)

refilled-owes : (l : Limit) (least n : ℕ) (x : Lane) → 0 < least → Owes l least x → Owes l least (lane_refilled l least n x)
refilled-owes l least n x some h = record {
  burst = level-refilled l n x.level h.burst;
  debt = let a = short-refilled l n x.level h.burst in let b = h.debt in omega (arith, a, b);
  goes = by x.suspended refl;
}
  where
    by : (b : Bool) → x.suspended ≡ b → (lane_refilled l least n x).suspended ≡ false → (refilled l n x.level).short < l.burst
    by false e f = let a = short-refilled l n x.level h.burst in let g = h.goes e in omega (arith, a, g)
    by true e f =
        let k = ltb-false (held (refilled l n x.level)) least (and-false x.suspended _ f e) in
        let q = level-refilled l n x.level h.burst in
        omega (arith, k, q, some)

-- over lists of calls
pub steps-owe : (l : Limit) (least : ℕ) (x : KeptLane) (ss : List GroupCall) → 0 < least → Owes l least x.lane → WithinShares l least x ss →
    Owes l least (after_steps l least x ss).lane
steps-owe l least x [] some h w = h
steps-owe l least x (Refills now ∷ ss) some h w =
    steps-owe l least (after_step l least x (Refills now)) ss some (refilled-owes l least (now / l.tick - x.tick) x.lane some h) w
steps-owe l least x (Spends count n ∷ ss) some h w =
    steps-owe l least (after_step l least x (Spends count n)) ss some (less-owes l least count n x.lane some h w.0) w.1

shares-split : (l : Limit) (least : ℕ) (x : KeptLane) (before ss : List GroupCall) → WithinShares l least x (before ++ ss) →
    WithinShares l least x before × WithinShares l least (after_steps l least x before) ss
shares-split l least x [] ss w = (tt, w)
shares-split l least x (Refills now ∷ before) ss w = shares-split l least (after_step l least x (Refills now)) before ss w
shares-split l least x (Spends count n ∷ before) ss w =
    let k = shares-split l least (after_step l least x (Spends count n)) before ss w.1 in
    ((w.0, k.0), k.1)

-- what is moved from a state that owes less than the least share
pub stretch : (l : Limit) (least : ℕ) (x : KeptLane) (ss : List GroupCall) → 0 < least → Owes l least x.lane → WithinShares l least x ss →
    moved_over (beats_of ss) ≤ l.burst + l.rate * ((after_steps l least x ss).tick - x.tick) + (least - 1)
stretch l least x ss some h w =
    let follows = lane-follows l least x ss in
    let end = steps-owe l least x ss some h w in
    let start : bucket_of x ≡ kept_at l x.tick x.lane.level.short =
    λ i. record { tick = x.tick; level = record { burst = h.burst i; short = x.lane.level.short } } in
    let same = follows ∙ ap (λ z. after_beats l z (beats_of ss)) start in
    let moved = moved-short l x.tick x.lane.level.short (beats_of ss) in
    let short = ap (λ (z : Kept). z.level.short) same in
    let debt = end.debt in
    let gain = ap (λ (z : Kept). l.rate * (z.tick - x.tick)) same in
    omega (arith, moved, short, debt, gain)

-- the least share of a group that is made, and what its bucket owes then
pub least-some_of : (cfg : LimitCfg) (share : ℕ) → 0 < share → 0 < least_of cfg share
least-some_of cfg share some = let a = cfg.reads in let b = cfg.writes in omega (arith, a, b, some)

pub made-owes : (cfg : LimitCfg) (share : ℕ) (d : Dir) → 0 < share →
    Owes (limit_of cfg d) (least_of cfg share) (first_lane (limit_of cfg d))
made-owes cfg share dir.Read some = record {
  burst = refl;
  debt = let a = least-some_of cfg share some in omega (arith, a);
  goes = λ f. let a = cfg.reads in let b = cfg.read_within in omega (arith, a, b);
}
made-owes cfg share dir.Write some = record {
  burst = refl;
  debt = let a = least-some_of cfg share some in omega (arith, a);
  goes = λ f. let a = cfg.writes in let b = cfg.write_within in omega (arith, a, b);
}

pub group-keeps_rate : GroupKeepsRate
group-keeps_rate cfg d share made_at before ss some w =
    let l = limit_of cfg d in
    let least = least_of cfg share in
    let parts = shares-split l least (made_lane l made_at) before ss w in
    let least-some = least-some_of cfg share some in
    stretch l least (after_steps l least (made_lane l made_at) before) ss least-some
    (steps-owe l least (made_lane l made_at) before least-some (made-owes cfg share d some) parts.0) parts.1

pub group-level_is_least : GroupLevelIsLeast
group-level_is_least cfg d least made_at ss time at =
    let l = limit_of cfg d in
    let follows = lane-follows l least (made_lane l made_at) ss in
    let at' = at ∙ ap (λ (z : Kept). z.tick) follows in
    let within : l.rate ≤ l.burst = rate-within d in
    ap (λ (z : Kept). held z.level) follows
    ∙ level-is_least l (made_at / l.tick) (l.burst - l.rate) (beats_of ss) time at'
    ∙ ap (λ n. least_with n (since_each l time (spells (beats_of ss)))) (omega (arith, within))
  where
    rate-within : (e : Dir) → (limit_of cfg e).rate ≤ (limit_of cfg e).burst
    rate-within dir.Read = cfg.read_within
    rate-within dir.Write = cfg.write_within
