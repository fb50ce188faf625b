-- What is kept of a group's bucket step by step is what the model has of all turns: how much it holds, and whether the group is suspended.
use Rattle.std.proofs.Common.{◌≡◌, ◌⊎◌, inl, inr, ℕ, zero, suc, ◌+◌, ◌-◌, ◌*◌, ◌<◌, ◌≤◌, Bool, true, false, ◌==◌, ◌&&◌, ◌||◌, List, [], ◌∷◌}
use Rattle.std.proofs.Common.{◌++◌, length, take, refl, sym, ◌∙◌, ap, subst, arith, length-append}
use Rattle.std.specs.Prelude.{nat_lt, slice_index_or, if◌then◌else◌}
use Rattle.std.proofs.lemmas.List.{take-append-le, take_all, get_or_append_left, get_or_push}
use Rattle.std.proofs.lemmas.Bool.Decides.{eqb_tells, leb_tells}
use Rattle.token_bucket.specs.declared.limit.Dir.{Dir}
use Rattle.token_bucket.specs.declared.limit.Dir.TheVariants as dir
use Rattle.token_bucket.specs.declared.limit.LimitCfg.{LimitCfg}
use Rattle.token_bucket.specs.declared.level.Level.{Level}
use Rattle.token_bucket.specs.Levels as levels
use Rattle.token_bucket.specs.Levels.{Limit, limit_of, less, held}
use Rattle.token_bucket.specs.Spells.{ticks, Spell, Beat, Begins, Moves, spells}
use Rattle.rate_group.specs.GroupValue.{Lane}
use Rattle.rate_group.specs.Steps.{lane_less, lane_refilled, first_lane}
use Rattle.rate_group.proofs.LevelsByCalls.{tick-some}
use Rattle.relay_model.specs.Settings.{GroupSet}
use Rattle.relay_model.specs.Groups.{no_spell, group_level, suspended_in, is_suspended, least_share}
use Rattle.relay_state.specs.Running.{refilled, short_after, Ascend, last_of}
use Rattle.relay_steps.specs.Grouped.{GroupLaneFits}
use Rattle.relay_steps.proofs.BucketLemmas.{running_is_least}
use Rattle.relay_steps.proofs.RunSteps.{short-append, spells-begins, spells-moves, added, added-none, ascend-push, ascend-last}

-- Limits

rate-some : (cfg : LimitCfg) (d : Dir) → 0 < (limit_of cfg d).rate
rate-some cfg dir.Read = cfg.reads
rate-some cfg dir.Write = cfg.writes

rate-within : (cfg : LimitCfg) (d : Dir) → (limit_of cfg d).rate ≤ (limit_of cfg d).burst
rate-within cfg dir.Read = cfg.read_within
rate-within cfg dir.Write = cfg.write_within

-- Turns

ascend-end : (from : ℕ) (xs : List Spell) (z : Spell) (time : ℕ) → Ascend from (xs ++ z ∷ []) time → z.time ≡ time
ascend-end from [] z time h = h.1
ascend-end from (x ∷ xs) z time h = ascend-end x.time xs z time h.1

ascend-other : (from : ℕ) (xs : List Spell) (z : Spell) (n time : ℕ) → Ascend from (xs ++ z ∷ []) time →
    Ascend from (xs ++ record { time = z.time; moved = n } ∷ []) time
ascend-other from [] z n time h = h
ascend-other from (x ∷ xs) z n time h = (h.0, ascend-other x.time xs z n time h.1)

added-last : (n : ℕ) (ys : List Spell) (z : Spell) → added n (ys ++ z ∷ []) ≡ ys ++ record z { moved = z.moved + n } ∷ []
added-last n [] z = refl
added-last n (y ∷ []) z = refl
added-last n (y ∷ x ∷ ys) z = ap (λ q. y ∷ q) (added-last n (x ∷ ys) z)

-- there are none, or there is a last one
abbrev HasLast : List Spell → Type 0
HasLast xs = (xs ≡ []) ⊎ ((ys : List Spell) × (z : Spell) × (xs ≡ ys ++ z ∷ []))

cons-last : (w : Spell) (ws : List Spell) → HasLast ws → HasLast (w ∷ ws)
cons-last w ws (inl e) = inr ([], w, ap (λ q. w ∷ q) e)
cons-last w ws (inr h) = inr (w ∷ h.0, h.1, ap (λ q. w ∷ q) h.2)

has-last : (xs : List Spell) → HasLast xs
has-last [] = inl refl
has-last (w ∷ ws) = cons-last w ws (has-last ws)

-- Truth values

or-same : (a b c : Bool) → (b ≡ true → a ≡ true) → ((b || c) || a) ≡ (a || c)
or-same true true c h = refl
or-same true false true h = refl
or-same true false false h = refl
or-same false true c h = absurd (let bad = h refl in cc)
or-same false false true h = refl
or-same false false false h = refl

or-none : (a b : Bool) → b ≡ false → (a || b) ≡ a
or-none true b h = refl
or-none false b h = h

or-covered : (a b : Bool) → (a ≡ true → b ≡ true) → b ≡ (a || b)
or-covered true b h = h refl
or-covered false b h = refl

and-both : (a b : Bool) → a ≡ true → b ≡ true → (a && b) ≡ true
and-both a b h k = (λ i. h i && k i)

or-first : (a b : Bool) → a ≡ true → (a || b) ≡ true
or-first a b h = ap (λ c. c || b) h

eq-zero : (n : ℕ) → (n == 0) ≡ true → n ≡ 0
eq-zero n h = elim (eqb_tells n 0) [ inl k ↦ k.1 | inr k ↦ absurd (let bad : true ≡ false = sym h ∙ k.0 in cc) ]

zero-eq : (n : ℕ) → n ≡ 0 → (n == 0) ≡ true
zero-eq n h = elim (eqb_tells n 0) [ inl k ↦ k.0 | inr k ↦ absurd (k.1 h) ]

pos-eq : (n : ℕ) → 0 < n → (n == 0) ≡ false
pos-eq n h = elim (eqb_tells n 0) [ inl k ↦ absurd (let z = k.1 in omega (arith, z, h)) | inr k ↦ k.0 ]

less-true : (a b : ℕ) → a < b → nat_lt a b ≡ true
less-true a b h = elim (leb_tells (suc a) b) [ inl k ↦ k.0 | inr k ↦ absurd (let bad = k.1 in omega (arith, bad, h)) ]

-- a level at a refill
fill-is : (l : Limit) (n : ℕ) (z : Level) → z.burst ≡ l.burst →
    ((levels.refilled l n z).burst ≡ l.burst) × ((levels.refilled l n z).short ≡ z.short - l.rate * n)
fill-is l n z h = elim (eqb_tells n 0) [
  | inl none ↦
      let is : levels.refilled l n z ≡ z = ap (λ b. if b then z else levels.with_ticks l n z) none.0 in
      let zero_ticks = none.1 in
      let brings : l.rate * n ≡ 0 = ap (λ m. l.rate * m) zero_ticks ∙ omega arith in
      (ap (λ (y : Level). y.burst) is ∙ h, ap (λ (y : Level). y.short) is ∙ omega (arith, brings))
  | inr some ↦
      let is : levels.refilled l n z ≡ levels.with_ticks l n z = ap (λ b. if b then z else levels.with_ticks l n z) some.0 in
      (ap (λ (y : Level). y.burst) is, ap (λ (y : Level). y.short) is ∙ omega (arith, h))
]

module _ (x : GroupSet) (d : Dir) where
  abbrev l : Limit
  l = limit_of x.cfg d

  -- turns behind say nothing of those before
  prefix : (k : ℕ) (xs ys : List Spell) → k ≤ length xs → suspended_in x d (xs ++ ys) k ≡ suspended_in x d xs k
  prefix zero xs ys le = refl
  prefix (suc n) xs ys le =
      let whole : take (n + 1) (xs ++ ys) ≡ take (n + 1) xs = take-append-le (n + 1) xs ys (omega (arith, le)) in
      let part : take (n + 1 - 1) (xs ++ ys) ≡ take (n + 1 - 1) xs = take-append-le (n + 1 - 1) xs ys (omega (arith, le)) in
      let turn : slice_index_or (xs ++ ys) (n + 1 - 1) no_spell ≡ slice_index_or xs (n + 1 - 1) no_spell =
      get_or_append_left xs ys no_spell (n + 1 - 1) (omega (arith, le)) in
      let before = prefix n xs ys (omega (arith, le)) in
      λ i.
      group_level x d (whole i) (turn i).time == 0
      || (before i && nat_lt (group_level x d (part i ++ record { time = (turn i).time; moved = 0 } ∷ []) (turn i).time) (least_share x))

  -- by the last turn and those before
  by_last : (ys : List Spell) (z : Spell) → is_suspended x d (ys ++ z ∷ [])
      ≡ (group_level x d (ys ++ z ∷ []) z.time == 0
      || (is_suspended x d ys && nat_lt (group_level x d (ys ++ record { time = z.time; moved = 0 } ∷ []) z.time) (least_share x)))
  by_last ys z =
      let n = length ys in
      let many : length (ys ++ z ∷ []) ≡ suc n = length-append ys (z ∷ []) ∙ omega arith in
      let all : take (n + 1) (ys ++ z ∷ []) ≡ ys ++ z ∷ [] = take_all (n + 1) (ys ++ z ∷ []) (omega (arith, many)) in
      let same : n + 1 - 1 ≡ n = omega arith in
      let front : take (n + 1 - 1) (ys ++ z ∷ []) ≡ ys =
      ap (λ k. take k (ys ++ z ∷ [])) same ∙ take-append-le n ys (z ∷ []) (omega arith) ∙ take_all n ys (omega arith) in
      let last : slice_index_or (ys ++ z ∷ []) (n + 1 - 1) no_spell ≡ z =
      ap (λ k. slice_index_or (ys ++ z ∷ []) k no_spell) same ∙ get_or_push ys z no_spell n refl in
      let before = prefix n ys (z ∷ []) (omega arith) in
      ap (suspended_in x d (ys ++ z ∷ [])) many
      ∙ (λ i.
      group_level x d (all i) (last i).time == 0
      || (before i && nat_lt (group_level x d (front i ++ record { time = (last i).time; moved = 0 } ∷ []) (last i).time) (least_share x)))

  -- the model's level, by how short the bucket is
  level-is : (all : List Spell) (time : ℕ) → Ascend 0 all time → group_level x d all time ≡ l.burst - short_after l 0 (l.burst - l.rate) all
  level-is all time h = running_is_least l 0 l.rate all time (tick-some x.cfg d) (rate-within x.cfg d) h

  -- what the bucket holds is what the model says
  pub group_held-is : (bs : List Beat) (time : ℕ) (v : Lane) → GroupLaneFits x d bs time v → held v.level ≡ group_level x d (spells bs) time
  group_held-is bs time v k =
      let burst = k.burst in
      let short = k.short in
      (λ i. burst i - short i) ∙ sym (level-is (spells bs) time k.ascend)

  -- a group that has just been made, at time 0
  pub first-fits : GroupLaneFits x d [] 0 (first_lane (limit_of x.cfg d))
  first-fits = record { burst = refl; short = refl; suspended = refl; ascend = refl }

  -- where the turns are the same
  pub direction-same : (bs cs : List Beat) (time : ℕ) (v : Lane) → spells cs ≡ spells bs → GroupLaneFits x d bs time v →
      GroupLaneFits x d cs time v
  direction-same bs cs time v same k = record {
    burst = k.burst;
    short = k.short ∙ ap (short_after l 0 (l.burst - l.rate)) (sym same);
    suspended = k.suspended ∙ ap (is_suspended x d) (sym same);
    ascend = subst (λ q. Ascend 0 q time) (sym same) k.ascend;
  }

  -- a bucket that holds nothing is suspended
  used_up : (bs : List Beat) (time : ℕ) (v : Lane) → GroupLaneFits x d bs time v → held v.level ≡ 0 → v.suspended ≡ true
  used_up bs time v k none = by (has-last (spells bs))
    where
      zero_level : group_level x d (spells bs) time ≡ 0
      zero_level = sym (group_held-is bs time v k) ∙ none

      by : HasLast (spells bs) → v.suspended ≡ true
      by (inl empty) =
          let first : v.level.short ≡ l.burst - l.rate = k.short ∙ ap (short_after l 0 (l.burst - l.rate)) empty in
          let b = k.burst in
          let some = rate-some x.cfg d in
          let within = rate-within x.cfg d in
          absurd (omega (arith, first, b, none, some, within))
      by (inr h) =
          let ys = h.0 in
          let z = h.1 in
          let time_is : z.time ≡ time = ascend-end 0 ys z time (subst (λ q. Ascend 0 q time) h.2 k.ascend) in
          let level : group_level x d (ys ++ z ∷ []) z.time ≡ 0 =
          ap (group_level x d (ys ++ z ∷ [])) time_is ∙ ap (λ q. group_level x d q time) (sym h.2) ∙ zero_level in
          k.suspended ∙ ap (is_suspended x d) h.2 ∙ by_last ys z
          ∙ or-first (group_level x d (ys ++ z ∷ []) z.time == 0)
          (is_suspended x d ys && nat_lt (group_level x d (ys ++ record { time = z.time; moved = 0 } ∷ []) z.time) (least_share x))
          (zero-eq (group_level x d (ys ++ z ∷ []) z.time) level)

  -- A turn begins: what came with its ticks is there, and the group stays suspended unless it has the least share.
  pub begins-fits : (bs : List Beat) (time ms n : ℕ) (v : Lane) → time ≤ ms → n ≡ ticks (limit_of x.cfg d).tick time ms →
      0 < least_share x → GroupLaneFits x d bs time v →
      GroupLaneFits x d (bs ++ Begins ms ∷ []) ms (lane_refilled (limit_of x.cfg d) (least_share x) n v)
  begins-fits bs time ms n v later many some k =
      let xs = spells bs in
      let z : Spell = record { time = ms; moved = 0 } in
      let all : spells (bs ++ Begins ms ∷ []) ≡ xs ++ z ∷ [] = spells-begins bs ms in
      let now : last_of 0 xs ≡ time = ascend-last 0 xs time k.ascend in
      let filled = fill-is l n v.level k.burst in
      let brings : v.level.short - l.rate * n ≡ refilled l time ms v.level.short = ap (λ q. v.level.short - l.rate * q) many in
      let short : refilled l time ms v.level.short ≡ short_after l 0 (l.burst - l.rate) (xs ++ z ∷ []) =
      sym (short-append l 0 (l.burst - l.rate) xs (z ∷ []) ∙ (λ i. refilled l (now i) ms (sym k.short i) + 0) ∙ omega arith) in
      let whole : (levels.refilled l n v.level).short ≡ short_after l 0 (l.burst - l.rate) (xs ++ z ∷ []) = filled.1 ∙ brings ∙ short in
      let asc : Ascend 0 (xs ++ z ∷ []) ms = ascend-push 0 xs time ms later k.ascend in
      let burst = filled.0 in
      let holds : held (levels.refilled l n v.level) ≡ group_level x d (xs ++ z ∷ []) ms =
      (λ i. burst i - whole i) ∙ sym (level-is (xs ++ z ∷ []) ms asc) in
      let stays : Bool = v.suspended && nat_lt (held (levels.refilled l n v.level)) (least_share x) in
      let nothing : (held (levels.refilled l n v.level) == 0) ≡ true → stays ≡ true =
      λ e.
      let none = eq-zero (held (levels.refilled l n v.level)) e in
      let b = k.burst in
      let f = filled.1 in
      let was : held v.level ≡ 0 = omega (arith, none, b, burst, f) in
      and-both v.suspended (nat_lt (held (levels.refilled l n v.level)) (least_share x)) (used_up bs time v k was)
      (less-true (held (levels.refilled l n v.level)) (least_share x) (omega (arith, none, some))) in
      record {
        burst = burst;
        short = whole ∙ ap (short_after l 0 (l.burst - l.rate)) (sym all);
        suspended =
            or-covered (held (levels.refilled l n v.level) == 0) stays nothing
            ∙ (λ i. holds i == 0 || (k.suspended i && nat_lt (holds i) (least_share x)))
            ∙ sym (by_last xs z)
            ∙ ap (is_suspended x d) (sym all);
        ascend = subst (λ q. Ascend 0 q ms) (sym all) asc;
      }

  -- Bytes are moved: the group is suspended where nothing is left.
  pub moves-fits : (bs : List Beat) (time n : ℕ) (v : Lane) → (spells bs ≡ [] → n ≡ 0) → GroupLaneFits x d bs time v →
      GroupLaneFits x d (bs ++ Moves n ∷ []) time (lane_less n v)
  moves-fits bs time n v none k = by (has-last (spells bs))
    where
      by : HasLast (spells bs) → GroupLaneFits x d (bs ++ Moves n ∷ []) time (lane_less n v)
      by (inl empty) =
          let zero_moved = none empty in
          let same : spells (bs ++ Moves n ∷ []) ≡ spells bs =
          spells-moves n bs ∙ ap (λ m. added m (spells bs)) zero_moved ∙ added-none (spells bs) in
          let first : v.level.short ≡ l.burst - l.rate = k.short ∙ ap (short_after l 0 (l.burst - l.rate)) empty in
          let b = k.burst in
          let some = rate-some x.cfg d in
          let within = rate-within x.cfg d in
          let left : 0 < held (less n v.level) = omega (arith, first, b, zero_moved, some, within) in
          record {
            burst = k.burst;
            short = (let w = zero_moved in omega (arith, w)) ∙ k.short ∙ ap (short_after l 0 (l.burst - l.rate)) (sym same);
            suspended =
                or-none v.suspended (held (less n v.level) == 0) (pos-eq (held (less n v.level)) left)
                ∙ k.suspended ∙ ap (is_suspended x d) (sym same);
            ascend = subst (λ q. Ascend 0 q time) (sym same) k.ascend;
          }
      by (inr h) =
          let ys = h.0 in
          let z = h.1 in
          let z' : Spell = record z { moved = z.moved + n } in
          let is : spells bs ≡ ys ++ z ∷ [] = h.2 in
          let all : spells (bs ++ Moves n ∷ []) ≡ ys ++ z' ∷ [] = spells-moves n bs ∙ ap (added n) is ∙ added-last n ys z in
          let asc : Ascend 0 (ys ++ z ∷ []) time = subst (λ q. Ascend 0 q time) is k.ascend in
          let asc' : Ascend 0 (ys ++ z' ∷ []) time = ascend-other 0 ys z (z.moved + n) time asc in
          let at : z.time ≡ time = ascend-end 0 ys z time asc in
          let was : v.level.short ≡ short_after l 0 (l.burst - l.rate) (ys ++ z ∷ []) =
          k.short ∙ ap (short_after l 0 (l.burst - l.rate)) is in
          let a = short-append l 0 (l.burst - l.rate) ys (z ∷ []) in
          let b = short-append l 0 (l.burst - l.rate) ys (z' ∷ []) in
          let short : v.level.short + n ≡ short_after l 0 (l.burst - l.rate) (ys ++ z' ∷ []) = omega (arith, was, a, b) in
          let burst = k.burst in
          let old_level : held v.level ≡ group_level x d (ys ++ z ∷ []) z.time =
          (λ i. burst i - was i) ∙ sym (level-is (ys ++ z ∷ []) time asc) ∙ ap (group_level x d (ys ++ z ∷ [])) (sym at) in
          let new_level : held (less n v.level) ≡ group_level x d (ys ++ z' ∷ []) z.time =
          (λ i. burst i - short i) ∙ sym (level-is (ys ++ z' ∷ []) time asc') ∙ ap (group_level x d (ys ++ z' ∷ [])) (sym at) in
          let base : Bool =
          is_suspended x d ys && nat_lt (group_level x d (ys ++ record { time = z.time; moved = 0 } ∷ []) z.time) (least_share x) in
          let old : v.suspended ≡ (held v.level == 0 || base) =
          k.suspended ∙ ap (is_suspended x d) is ∙ by_last ys z ∙ ap (λ m. m == 0 || base) (sym old_level) in
          let gone : (held v.level == 0) ≡ true → (held (less n v.level) == 0) ≡ true =
          λ e. zero-eq (held (less n v.level)) (let q = eq-zero (held v.level) e in omega (arith, q)) in
          record {
            burst = burst;
            short = short ∙ ap (short_after l 0 (l.burst - l.rate)) (sym all);
            suspended =
                ap (λ q. q || (held (less n v.level) == 0)) old
                ∙ or-same (held (less n v.level) == 0) (held v.level == 0) base gone
                ∙ ap (λ m. m == 0 || base) new_level ∙ sym (by_last ys z')
                ∙ ap (is_suspended x d) (sym all);
            ascend = subst (λ q. Ascend 0 q time) (sym all) asc';
          }
