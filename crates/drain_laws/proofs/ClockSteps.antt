-- A closing turn is a step of the clock behind the one before, and in a step a tick of each limit begins.
use Rattle.std.proofs.Common.{◌≡◌, ℕ, zero, suc, ◌+◌, ◌*◌, ◌/◌, ◌<◌, ◌≤◌, max, Bool, true, false, ◌==◌, if◌then◌else◌, List, [], ◌∷◌}
use Rattle.std.proofs.Common.{◌++◌, map, fold}
use Rattle.std.proofs.Common.{Option, Some, refl, sym, ap, subst, arith, eqb-true}
use Rattle.std.specs.Prelude.{slice_get, option_map, option_to_list}
use Rattle.std.proofs.lemmas.List.Sums.{fold-append}
use Rattle.std.proofs.lemmas.Nat.{le-div}
use Rattle.std.proofs.Math.Nat.{div-mul-le_self}
use Rattle.token_bucket.specs.declared.limit.LimitCfg.{LimitCfg}
use Rattle.token_bucket.specs.Spells.{ticks}
use Rattle.ev_types.specs.declared.side.Side.{Side}
use Rattle.ev_types.specs.declared.side.Side.TheVariants.{In, Out}
use Rattle.relay_model.specs.Settings.{Settings, GroupSet, rate_set}
use Rattle.relay_model.specs.MovingOn.{SideTicksPass, GroupTicksPass}
use Rattle.relay_model.specs.Script.{tick_lengths, greatest, closing_step}

-- over a time that is no shorter than a tick one begins
pub tick-begins : (tick from to : ℕ) → 0 < tick → from + tick ≤ to → 1 ≤ ticks tick from to
tick-begins tick from to some le =
    let a = div-mul-le_self from tick in
    let b : (from / tick + 1) * tick ≤ to =
    (let c : (from / tick + 1) * tick ≡ from / tick * tick + tick = ring-one (from / tick) tick in omega (arith, a, c, le)) in
    let d = le-div (from / tick + 1) to tick some b in
    omega (arith, d)
  where
    ring-one : (q k : ℕ) → (q + 1) * k ≡ q * k + k
    ring-one q k = grind arith

abbrev most-of : ℕ → List ℕ → ℕ
most-of m ns = fold (λ most n. max most n) m ns

most-more : (ns : List ℕ) (m : ℕ) → m ≤ most-of m ns
most-more [] m = omega arith
most-more (n ∷ ns) m = let h = most-more ns (max m n) in omega (arith, h)

-- the greatest of lists in a row is no less than that of one of them
most-later : (ms ns : List ℕ) (m n : ℕ) → n ≤ most-of (most-of m ms) ns → n ≤ most-of m (ms ++ ns)
most-later ms ns m n h = subst (λ v. n ≤ v) (sym (fold-append (λ most n. max most n) m ms ns)) h

most-early : (ms ns : List ℕ) (m n : ℕ) → n ≤ most-of m ms → n ≤ most-of m (ms ++ ns)
most-early ms ns m n h = most-later ms ns m n (let a = most-more ns (most-of m ms) in omega (arith, a, h))

option-most : (o : Option LimitCfg) (m : ℕ) (cfg : LimitCfg) → o ≡ Some cfg →
    cfg.tick_ms ≤ most-of m (option_to_list (option_map (λ cfg. cfg.tick_ms) o))
option-most o m cfg is =
    subst (λ v. cfg.tick_ms ≤ most-of m (option_to_list (option_map (λ cfg. cfg.tick_ms) v))) (sym is) (omega arith)

group-most : (xs : List GroupSet) (n m : ℕ) (x : GroupSet) → slice_get xs n ≡ Some x →
    x.cfg.tick_ms ≤ most-of m (map (λ v. v.cfg.tick_ms) xs)
group-most [] n m x is = absurd (cc)
group-most (y ∷ xs) zero m x is =
    let same : y.cfg.tick_ms ≡ x.cfg.tick_ms = some-tick y x is in
    let h = most-more (map (λ v. v.cfg.tick_ms) xs) (max m y.cfg.tick_ms) in omega (arith, h, same)
  where
    some-tick : (a b : GroupSet) → Some a ≡ Some b → a.cfg.tick_ms ≡ b.cfg.tick_ms
    some-tick a b h = let k : a ≡ b = cc h in ap (λ v. v.cfg.tick_ms) k
group-most (y ∷ xs) (suc n) m x is = group-most xs n (max m y.cfg.tick_ms) x is

-- a step is no shorter than a tick that is no longer than the longest
step-holds : (g : Settings) (tick : ℕ) → 0 < tick → tick ≤ greatest (tick_lengths g) → tick ≤ closing_step g
step-holds g tick some le = go (greatest (tick_lengths g)) le (greatest (tick_lengths g) == 0) refl
  where
    go : (n : ℕ) → tick ≤ n → (b : Bool) → (n == 0) ≡ b → tick ≤ (if b then 1000 else n)
    go n h true is = absurd (let a = eqb-true n 0 is in omega (arith, a, h, some))
    go n h false is = h

module _ (g : Settings) where
  abbrev of_in : List ℕ
  of_in = option_to_list (option_map (λ cfg. cfg.tick_ms) g.in_rate)

  abbrev of_out : List ℕ
  of_out = option_to_list (option_map (λ cfg. cfg.tick_ms) g.out_rate)

  abbrev of_groups : List ℕ
  of_groups = map (λ x. x.cfg.tick_ms) g.groups

  side-step : (side : Side) (cfg : LimitCfg) → rate_set g side ≡ Some cfg → cfg.tick_ms ≤ closing_step g
  side-step In cfg is =
      step-holds g cfg.tick_ms cfg.ticks
      (most-early (of_in ++ of_out) of_groups 0 cfg.tick_ms
      (most-early of_in of_out 0 cfg.tick_ms (option-most g.in_rate 0 cfg is)))
  side-step Out cfg is =
      step-holds g cfg.tick_ms cfg.ticks
      (most-early (of_in ++ of_out) of_groups 0 cfg.tick_ms
      (most-later of_in of_out 0 cfg.tick_ms (option-most g.out_rate (most-of 0 of_in) cfg is)))

  group-step : (n : ℕ) (x : GroupSet) → slice_get g.groups n ≡ Some x → x.cfg.tick_ms ≤ closing_step g
  group-step n x is =
      step-holds g x.cfg.tick_ms x.cfg.ticks
      (most-later (of_in ++ of_out) of_groups 0 x.cfg.tick_ms (group-most g.groups n (most-of 0 (of_in ++ of_out)) x is))

-- over a step of the clock a tick of the limit of each side begins, and one of that of each group
pub side-ticks : (g : Settings) (from to : ℕ) → from + closing_step g ≤ to → SideTicksPass g from to
side-ticks g from to le side cfg is =
    tick-begins cfg.tick_ms from to cfg.ticks (let a = side-step g side cfg is in omega (arith, a, le))

pub group-ticks : (g : Settings) (from to : ℕ) → from + closing_step g ≤ to → GroupTicksPass g from to
group-ticks g from to le n x is =
    tick-begins x.cfg.tick_ms from to x.cfg.ticks (let a = group-step g n x is in omega (arith, a, le))
