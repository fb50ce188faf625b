-- When a bucket of a side that holds nothing gains again: the same moment is told as long as it has not come, and until then each bucket
-- holds something where it does.
use Rattle.std.specs.Prelude.{if◌then◌else◌, option_to_list}
use Rattle.std.specs.List.{list_any}
use Rattle.std.proofs.Common.{◌≡◌, ℕ, zero, suc, ◌+◌, ◌-◌, ◌*◌, ◌/◌, ◌<◌, ◌≤◌, ◌==◌, Bool, true, false, ◌&&◌, ◌||◌, nat_le}
use Rattle.std.proofs.Common.{List, [], ◌∷◌, Option, Some, None, refl, sym, ◌∙◌, ap, arith}
use Rattle.std.proofs.Math.Nat.{mul-le-mul_left}
use Rattle.std.proofs.lemmas.Nat.{div_below}
use Rattle.std.proofs.lemmas.Bool.{le-leb, leb-true, eqb-true}
use Rattle.token_bucket.specs.declared.limit.Dir.{Dir}
use Rattle.token_bucket.specs.declared.limit.Dir.TheVariants as dir
use Rattle.token_bucket.specs.declared.limit.LimitCfg.{LimitCfg}
use Rattle.ev_types.specs.declared.side.SideId.{SideId}
use Rattle.relay_model.specs.Moments.{both_ways, moment_where}
use Rattle.relay_model.specs.Plain.{PlainSide, Standing, side_at, is_live}
use Rattle.relay_model.specs.Rates.{next_tick}
use Rattle.relay_model.proofs.RateBound.{div-later}
use Rattle.relay_state.specs.Running.{Gauge, held_at}
use Rattle.relay_state.specs.State.{State, gauge_at}
use Rattle.relay_state.specs.Time.{limit_gain}
use Rattle.relay_sides.specs.KeptLimits.{limit_gains}
use Rattle.relay_core.specs.Timeless.{leaves_some, left_by, side_gains}
use Rattle.relay_core.specs.Waits.{gain_of}

-- a bucket holds no less later
pub held-later : (cfg : LimitCfg) (x : Gauge) (d : Dir) (a b : ℕ) → a ≤ b → held_at cfg x d a ≤ held_at cfg x d b
held-later cfg x dir.Read a b le =
    let q = div-later a b cfg.tick_ms cfg.ticks le in
    let r : cfg.read_rate * (a / cfg.tick_ms - x.time / cfg.tick_ms) ≤ cfg.read_rate * (b / cfg.tick_ms - x.time / cfg.tick_ms) =
    mul-le-mul_left cfg.read_rate (omega (arith, q)) in
    omega (arith, r)
held-later cfg x dir.Write a b le =
    let q = div-later a b cfg.tick_ms cfg.ticks le in
    let r : cfg.write_rate * (a / cfg.tick_ms - x.time / cfg.tick_ms) ≤ cfg.write_rate * (b / cfg.tick_ms - x.time / cfg.tick_ms) =
    mul-le-mul_left cfg.write_rate (omega (arith, q)) in
    omega (arith, r)

-- before the next tick it is the same tick
same-tick : (cfg : LimitCfg) (a b : ℕ) → a ≤ b → b < next_tick cfg.tick_ms a → b / cfg.tick_ms ≡ a / cfg.tick_ms
same-tick cfg a b le before =
    let up = div-later a b cfg.tick_ms cfg.ticks le in
    let down = div_below b cfg.tick_ms (a / cfg.tick_ms + 1) cfg.ticks before in
    omega (arith, up, down)

-- and the bucket holds as much
held-same : (cfg : LimitCfg) (x : Gauge) (d : Dir) (a b : ℕ) → b / cfg.tick_ms ≡ a / cfg.tick_ms → held_at cfg x d b ≡ held_at cfg x d a
held-same cfg x dir.Read a b e = ap (λ q. cfg.read_burst - (x.read - cfg.read_rate * (q - x.time / cfg.tick_ms))) e
held-same cfg x dir.Write a b e = ap (λ q. cfg.write_burst - (x.write - cfg.write_rate * (q - x.time / cfg.tick_ms))) e

-- one of the buckets holds nothing
abbrev pub is_short : LimitCfg → Gauge → ℕ → Bool
is_short cfg x time = list_any (λ d. held_at cfg x d time == 0) both_ways

short-same : (cfg : LimitCfg) (x : Gauge) (a b : ℕ) → b / cfg.tick_ms ≡ a / cfg.tick_ms → is_short cfg x b ≡ is_short cfg x a
short-same cfg x a b e =
    λ i. (held-same cfg x dir.Read a b e i == 0) || ((held-same cfg x dir.Write a b e i == 0) || false)

-- where both hold something, both do later
full-parts : (cfg : LimitCfg) (x : Gauge) (time : ℕ) → is_short cfg x time ≡ false → (d : Dir) → nat_le 1 (held_at cfg x d time) ≡ true
full-parts cfg x time none d = le-leb 1 (held_at cfg x d time) (some (held_at cfg x d time) (part d))
  where
    first : (p q : Bool) → (p || (q || false)) ≡ false → p ≡ false
    first true q h = absurd (let wrong : true ≡ false = h in cc)
    first false q h = refl

    second : (p q : Bool) → (p || (q || false)) ≡ false → q ≡ false
    second true q h = absurd (let wrong : true ≡ false = h in cc)
    second false true h = absurd (let wrong : true ≡ false = h in cc)
    second false false h = refl

    part : (d : Dir) → held_at cfg x d time == 0 ≡ false
    part dir.Read = first (held_at cfg x dir.Read time == 0) (held_at cfg x dir.Write time == 0) none
    part dir.Write = second (held_at cfg x dir.Read time == 0) (held_at cfg x dir.Write time == 0) none

    some : (n : ℕ) → n == 0 ≡ false → 1 ≤ n
    some zero h = absurd (let wrong : true ≡ false = h in cc)
    some (suc n) h = omega arith

full-later : (cfg : LimitCfg) (x : Gauge) (a b : ℕ) → a ≤ b → is_short cfg x a ≡ false → is_short cfg x b ≡ false
full-later cfg x a b le none = λ i. none_at dir.Read i || (none_at dir.Write i || false)
  where
    not_zero : (n : ℕ) → 1 ≤ n → n == 0 ≡ false
    not_zero n h = go (n == 0) refl
      where
        go : (c : Bool) → n == 0 ≡ c → c ≡ false
        go false e = refl
        go true e = absurd (let none = eqb-true n 0 e in omega (arith, h, none))

    none_at : (d : Dir) → held_at cfg x d b == 0 ≡ false
    none_at d =
        not_zero (held_at cfg x d b)
        (let one = leb-true 1 (held_at cfg x d a) (full-parts cfg x a none d) in let more = held-later cfg x d a b le in
        omega (arith, one, more))

-- it has not come
abbrev pub IsAhead : Option ℕ → ℕ → Type 0
IsAhead moment time = (n : ℕ) → moment ≡ Some n → time < n

-- of a limit and its buckets: the moment is told still, and what leaves something is alike
record Alike (moment : Option ℕ) (a b : ℕ) (l : Option Standing) (x : Gauge) : Type 0 where
  told : option_to_list moment ≡ limit_gains b x l
  left : (d : Dir) → leaves_some (left_by l x d b) ≡ leaves_some (left_by l x d a)

alike : (moment : Option ℕ) (a b : ℕ) (l : Option Standing) (x : Gauge) → a ≤ b → IsAhead moment b →
    option_to_list moment ≡ limit_gains a x l → Alike moment a b l x
alike moment a b None x le ahead is = record { told = is; left = λ d. refl }
alike moment a b (Some y) x le ahead is = by (is_short y.cfg x a) refl moment is ahead
  where
    tick : ℕ
    tick = next_tick y.cfg.tick_ms a

    by : (short : Bool) → is_short y.cfg x a ≡ short → (m : Option ℕ) →
        option_to_list m ≡ moment_where (is_short y.cfg x a) (next_tick y.cfg.tick_ms a) → IsAhead m b → Alike m a b (Some y) x
    by false none m is ahead = record {
      told = is ∙ ap (λ c. moment_where c tick) none
          ∙ sym (ap (λ c. moment_where c (next_tick y.cfg.tick_ms b)) (full-later y.cfg x a b le none));
      left = λ d. full-parts y.cfg x b (full-later y.cfg x a b le none) d ∙ sym (full-parts y.cfg x a none d);
    }
    by true some None is ahead = absurd (let wrong : [] ≡ tick ∷ [] = is ∙ ap (λ c. moment_where c tick) some in cc)
    by true some (Some n) is ahead =
        let one : n ∷ [] ≡ tick ∷ [] = is ∙ ap (λ c. moment_where c tick) some in
        let at : n ≡ tick = (cc one) in
        let e = same-tick y.cfg a b le (let late = ahead n refl in omega (arith, late, at)) in
        record {
          told = is ∙ (λ i. moment_where (sym (short-same y.cfg x a b e) i) ((sym e i + 1) * y.cfg.tick_ms));
          left = λ d. ap (nat_le 1) (held-same y.cfg x d a b e);
        }

-- the same of a side
pub gains-later : (moment : Option ℕ) (a b : ℕ) (y : PlainSide) (x : Gauge) → a ≤ b → IsAhead moment b →
    option_to_list moment ≡ side_gains a y x → option_to_list moment ≡ side_gains b y x
gains-later moment a b y x le ahead is = by y.live is
  where
    by : (live : Bool) → option_to_list moment ≡ (if live then limit_gains a x y.limit else []) →
        option_to_list moment ≡ (if live then limit_gains b x y.limit else [])
    by true is = (alike moment a b y.limit x le ahead is).told
    by false is = is

pub left-alike : (moment : Option ℕ) (a b : ℕ) (y : PlainSide) (x : Gauge) → a ≤ b → IsAhead moment b →
    option_to_list moment ≡ side_gains a y x → y.live ≡ true → (d : Dir) →
    leaves_some (left_by y.limit x d b) ≡ leaves_some (left_by y.limit x d a)
left-alike moment a b y x le ahead is live d =
    (alike moment a b y.limit x le ahead (is ∙ ap (λ c. if c then limit_gains a x y.limit else []) live)).left d

-- The model tells of a side what is told of its buckets here.
pub gain-side : (s : State) (e : SideId) → gain_of s e ≡ side_gains s.plain.time (side_at s.plain e) (gauge_at s e)
gain-side s e = told (side_at s.plain e).limit ∙ by (side_at s.plain e).limit (is_live s.plain e)
  where
    gain : Option Standing → Bool → List ℕ
    gain None live = []
    gain (Some y) live = moment_where (live && is_short y.cfg (gauge_at s e) s.plain.time) (next_tick y.cfg.tick_ms s.plain.time)

    told : (l : Option Standing) → limit_gain s e l ≡ gain l (is_live s.plain e)
    told None = refl
    told (Some y) = refl

    by : (l : Option Standing) (live : Bool) → gain l live ≡ (if live then limit_gains s.plain.time (gauge_at s e) l else [])
    by None true = refl
    by None false = refl
    by (Some y) true = refl
    by (Some y) false = refl
