-- What is kept of a side's buckets, step by step, is what the model has by the least over all turns.
use Rattle.std.proofs.Common.{◌≡◌, ℕ, suc, ◌+◌, ◌-◌, ◌*◌, ◌/◌, ◌<◌, ◌≤◌, min, List, [], ◌∷◌, ◌++◌, length, length-append, drop, refl, sym}
use Rattle.std.proofs.Common.{◌∙◌, ap, subst, arith}
use Rattle.std.proofs.lemmas.List.{map-append, drop_all}
use Rattle.token_bucket.specs.declared.limit.Dir.{Dir}
use Rattle.token_bucket.specs.declared.limit.Dir.TheVariants as dir
use Rattle.token_bucket.specs.declared.limit.LimitCfg.{LimitCfg}
use Rattle.ev_types.specs.declared.side.SideId.{SideId}
use Rattle.ev_types.specs.declared.entry.Entry.TheVariants as entry
use Rattle.ev_types.specs.Trace.{Event, Trace}
use Rattle.relay_model.specs.Settings.{Settings}
use Rattle.relay_model.specs.Plain.{Plain, Standing, first_limit}
use Rattle.relay_model.specs.Past.{past}
use Rattle.relay_model.specs.Asks.{next_limit}
use Rattle.relay_model.specs.Rates.{beat_of, side_spells, held_as_set, standing_level}
use Rattle.token_bucket.specs.Spells.{Spell, Beat, Begins, Moves, spells}
use Rattle.token_bucket.specs.Levels.{Limit, limit_of}
use Rattle.relay_state.specs.Running.{refilled, short_after, Ascend, short_now, time_now, Gauge, short_of, short_at, held_at, spent_by}
use Rattle.relay_state.specs.Running.{first_gauge, next_gauge}
use Rattle.relay_steps.specs.Gauges.{beats, short_by, BucketFits}
use Rattle.relay_state.specs.State.{gauge_at}
use Rattle.relay_steps.specs.BucketLaws.{GaugesTellLevels}
use Rattle.relay_steps.proofs.BucketLemmas.{running_is_least, gain-join}
use Rattle.relay_steps.proofs.RunSteps.{turn-step, move-step, none-step, drop-added, spells-moves, spells-begins, drop-begins, ascend-added}
use Rattle.relay_steps.proofs.RunSteps.{ascend-push, ascend-last, added}

-- What the bucket holds is what the model says.
pub held-is : (t : Trace) (time : ℕ) (y : Standing) (e : SideId) (x : Gauge) (d : Dir) → BucketFits t time y e x d →
    held_at y.cfg x d time ≡ standing_level y d (side_spells e d t) time
held-is t time y e x d k =
    ap (λ n. (limit_of y.cfg d).burst - n) k.short
    ∙ sym (running_is_least (limit_of y.cfg d) y.time (held_as_set y d) (drop y.turn (side_spells e d t)) time k.ticks k.held k.ascend)

-- where the trace has the same turns for it
pub bucket-same : (t u : Trace) (time : ℕ) (y : Standing) (e : SideId) (x : Gauge) (d : Dir) → side_spells e d u ≡ side_spells e d t →
    BucketFits t time y e x d → BucketFits u time y e x d
bucket-same t u time y e x d same k = record {
  short = k.short ∙ ap (λ z. short_after (limit_of y.cfg d) y.time ((limit_of y.cfg d).burst - held_as_set y d) (drop y.turn z)) (sym same);
  turn = subst (λ z. y.turn ≤ length z) (sym same) k.turn;
  held = k.held;
  ascend = subst (λ z. Ascend y.time (drop y.turn z) time) (sym same) k.ascend;
  ticks = k.ticks;
  kept = k.kept;
}

-- an event by which nothing is moved, and no turn begins
pub bucket-silent : (t : Trace) (v : Event) (time : ℕ) (y : Standing) (e : SideId) (x : Gauge) (d : Dir) → beat_of e d v ≡ Moves 0 →
    BucketFits t time y e x d → BucketFits (t ++ v ∷ []) time y e x d
bucket-silent t v time y e x d none =
    bucket-same t (t ++ v ∷ []) time y e x d
    (ap spells (map-append (beat_of e d) t (v ∷ []) ∙ ap (λ z. beats e d t ++ z ∷ []) none) ∙ none-step (beats e d t))

-- A turn begins: nothing is done, and what came with its ticks counts.
pub bucket-turn : (t : Trace) (ms : ℕ) (bytes : List ℕ) (time : ℕ) (y : Standing) (e : SideId) (x : Gauge) (d : Dir) → time ≤ ms →
    BucketFits t time y e x d → BucketFits (t ++ (entry.Turn ms, bytes) ∷ []) ms y e x d
bucket-turn t ms bytes time y e x d later k =
    let l : Limit = limit_of y.cfg d in
    let bs : List Beat = beats e d t in
    let all : beats e d (t ++ (entry.Turn ms, bytes) ∷ []) ≡ bs ++ Begins ms ∷ [] =
    map-append (beat_of e d) t ((entry.Turn ms, bytes) ∷ []) in
    let gain = gain-join l x.time time ms k.ticks k.kept later in
    let now : time_now y.time y.turn bs ≡ time = ascend-last y.time (drop y.turn (spells bs)) time k.ascend in
    let split : short_at y.cfg x d ms ≡ refilled l time ms (short_at y.cfg x d time) = omega (arith, gain) in
    let whole = ap spells all ∙ spells-begins bs ms in
    record {
      short =
          split ∙ ap (refilled l time ms) k.short
          ∙ ap (λ z. refilled l z ms (short_by y e d t)) (sym now)
          ∙ sym (turn-step l y.time (held_as_set y d) y.turn bs ms k.turn)
          ∙ ap (short_now l y.time (held_as_set y d) y.turn) (sym all);
      turn =
          let n = ap length whole in
          let m = length-append (spells bs) (record { time = ms; moved = 0 } ∷ []) in
          let z = k.turn in
          omega (arith, n, m, z);
      held = k.held;
      ascend = subst (λ z. Ascend y.time z ms) (sym (ap (drop y.turn) (ap spells all) ∙ drop-begins y.turn ms bs k.turn))
          (ascend-push y.time (drop y.turn (spells bs)) time ms later k.ascend);
      ticks = k.ticks;
      kept = (let z = k.kept in omega (arith, z, later));
    }

-- Bytes are moved, under a limit that was set before this turn.
pub bucket-moved : (t : Trace) (v : Event) (n time : ℕ) (y : Standing) (e : SideId) (x : Gauge) (d : Dir) → beat_of e d v ≡ Moves n →
    y.turn < length (side_spells e d t) → x.time ≡ time → BucketFits t time y e x d → BucketFits (t ++ v ∷ []) time y e (spent_by d n x) d
bucket-moved t v n time y e x d moved before fresh k =
    let l : Limit = limit_of y.cfg d in
    let bs : List Beat = beats e d t in
    let all : beats e d (t ++ v ∷ []) ≡ bs ++ Moves n ∷ [] = map-append (beat_of e d) t (v ∷ []) ∙ ap (λ z. bs ++ z ∷ []) moved in
    let whole = ap spells all ∙ spells-moves n bs in
    record {
      short =
          spending d ∙ ap (λ z. z + n) k.short ∙ sym (move-step l y.time (held_as_set y d) y.turn bs n before)
          ∙ ap (short_now l y.time (held_as_set y d) y.turn) (sym all);
      turn = subst (λ z. y.turn ≤ length z) (sym whole) (let m = length-added n (spells bs) in let z = k.turn in omega (arith, m, z));
      held = k.held;
      ascend = subst (λ z. Ascend y.time z time) (sym (ap (drop y.turn) whole ∙ drop-added n y.turn (spells bs)))
          (ascend-added n y.time (drop y.turn (spells bs)) time k.ascend);
      ticks = k.ticks;
      kept = spent-time d;
    }
  where
    length-added : (m : ℕ) (xs : List Spell) → length (added m xs) ≡ length xs
    length-added m [] = refl
    length-added m (z ∷ []) = refl
    length-added m (z ∷ w ∷ xs) = ap suc (length-added m (w ∷ xs))

    no-ticks : (l : Limit) (a b : ℕ) → a ≡ b → (short : ℕ) → refilled l a b short ≡ short
    no-ticks l a b same short =
        let z : a / l.tick - b / l.tick ≡ 0 = omega (arith, ap (λ w. w / l.tick) same) in
        let w : b / l.tick - a / l.tick ≡ 0 = omega (arith, ap (λ q. q / l.tick) same) in
        let p = ap (λ q. l.rate * q) w in omega (arith, p)

    spending : (d : Dir) → short_at y.cfg (spent_by d n x) d time ≡ short_at y.cfg x d time + n
    spending dir.Read =
        no-ticks (limit_of y.cfg dir.Read) x.time time fresh (x.read + n)
        ∙ ap (λ z. z + n) (sym (no-ticks (limit_of y.cfg dir.Read) x.time time fresh x.read))
    spending dir.Write =
        no-ticks (limit_of y.cfg dir.Write) x.time time fresh (x.write + n)
        ∙ ap (λ z. z + n) (sym (no-ticks (limit_of y.cfg dir.Write) x.time time fresh x.write))

    spent-time : (d : Dir) → (spent_by d n x).time ≤ time
    spent-time dir.Read = omega (arith, fresh)
    spent-time dir.Write = omega (arith, fresh)

-- A limit is set: the first of its side, or another in the place of one.

positive : (cfg : LimitCfg) (d : Dir) → 0 < (limit_of cfg d).tick
positive cfg dir.Read = cfg.ticks
positive cfg dir.Write = cfg.ticks

pub nothing-since : (tick time : ℕ) → time / tick - time / tick ≡ 0
nothing-since tick time = omega arith

pub fresh-short : (l : Limit) (time short : ℕ) → refilled l time time short ≡ short
fresh-short l time short = let w = nothing-since l.tick time in let p = ap (λ q. l.rate * q) w in omega (arith, p)

-- a limit that is set in the turn that runs, of which a bucket holds so much
pub bucket-set : (t : Trace) (time : ℕ) (y : Standing) (e : SideId) (x : Gauge) (d : Dir) → y.time ≡ time →
    y.turn ≡ length (side_spells e d t) → held_as_set y d ≤ (limit_of y.cfg d).burst → x.time ≡ time →
    short_of x d ≡ (limit_of y.cfg d).burst - held_as_set y d → BucketFits t time y e x d
bucket-set t time y e x d at turn held now short =
    let l : Limit = limit_of y.cfg d in
    let none : drop y.turn (side_spells e d t) ≡ [] = drop_all y.turn (side_spells e d t) (omega (arith, turn)) in
    record {
      short =
          ap (λ z. refilled l z time (short_of x d)) now ∙ fresh-short l time (short_of x d) ∙ short
          ∙ ap (short_after l y.time (l.burst - held_as_set y d)) (sym none);
      turn = omega (arith, turn);
      held = held;
      ascend = subst (λ z. Ascend y.time z time) (sym none) at;
      ticks = positive y.cfg d;
      kept = omega (arith, now);
    }

pub bucket-first : (t : Trace) (time turn : ℕ) (cfg : LimitCfg) (e : SideId) (d : Dir) → turn ≡ length (side_spells e d t) →
    BucketFits t time (first_limit time turn cfg) e (first_gauge cfg time) d
bucket-first t time turn cfg e dir.Read many =
    bucket-set t time (first_limit time turn cfg) e (first_gauge cfg time) dir.Read refl many cfg.read_within refl refl
bucket-first t time turn cfg e dir.Write many =
    bucket-set t time (first_limit time turn cfg) e (first_gauge cfg time) dir.Write refl many cfg.write_within refl refl

-- another limit takes what the bucket holds with it, cut to the new burst
pub bucket-next : (g : Settings) (t : Trace) (s : Plain) (was : Standing) (cfg : LimitCfg) (e : SideId) (x : Gauge) →
    ((d : Dir) → s.turn ≡ length (side_spells e d t)) → ((d : Dir) → BucketFits t s.time was e x d) → (d : Dir) →
    BucketFits t s.time (next_limit (past g t) s e was cfg) e (next_gauge was.cfg cfg s.time x) d
bucket-next g t s was cfg e x many k dir.Read =
    bucket-set t s.time (next_limit (past g t) s e was cfg) e (next_gauge was.cfg cfg s.time x) dir.Read refl (many dir.Read)
    (omega arith) refl (ap (λ n. cfg.read_burst - min n cfg.read_burst) (held-is t s.time was e x dir.Read (k dir.Read)))
bucket-next g t s was cfg e x many k dir.Write =
    bucket-set t s.time (next_limit (past g t) s e was cfg) e (next_gauge was.cfg cfg s.time x) dir.Write refl (many dir.Write)
    (omega arith) refl (ap (λ n. cfg.write_burst - min n cfg.write_burst) (held-is t s.time was e x dir.Write (k dir.Write)))

-- So it is where a relay stands.
pub gauges_tell_levels : GaugesTellLevels
gauges_tell_levels t x s k e y is d = held-is t s.plain.time y e (gauge_at s e) d (k.gauged.each e y is d)
