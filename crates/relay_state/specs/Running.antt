-- A bucket as one running number a direction: how many bytes it is short of full. It is never below nothing and has no least value, so
-- that an overdrawn bucket needs no sign. What it holds is the burst less that.
use Rattle.std.specs.Prelude.{◌≡◌, Option, Some, None, ℕ, ◌+◌, ◌-◌, ◌≤◌, ◌*◌, min, List, [], ◌∷◌, drop}
use Rattle.token_bucket.specs.declared.limit.Dir.{Dir}
use Rattle.token_bucket.specs.declared.limit.Dir.TheVariants as dir
use Rattle.token_bucket.specs.declared.limit.LimitCfg.{LimitCfg}
use Rattle.relay_model.specs.Plain.{Standing}
use Rattle.token_bucket.specs.Spells.{ticks, Spell, Beat, spells}
use Rattle.token_bucket.specs.Levels.{Limit, limit_of}

-- what a tick or more brings
abbrev pub refilled : Limit → ℕ → ℕ → ℕ → ℕ
refilled l from to short = short - l.rate * ticks l.tick from to

-- how short it is behind these turns, if it was so short at a time: each turn refills it, and then bytes are moved
abbrev pub short_after : Limit → ℕ → ℕ → List Spell → ℕ
short_after l from short [] = short
short_after l from short (x ∷ xs) = short_after l x.time (refilled l from x.time short + x.moved) xs

-- turns whose times don't fall, from a time up to another, which is that of the last
abbrev pub Ascend : ℕ → List Spell → ℕ → Type 0
Ascend from [] time = from ≡ time
Ascend from (x ∷ xs) time = (from ≤ x.time) × Ascend x.time xs time

-- What is kept of a bucket in one direction, step by step

-- the time of the last of these turns, or this one where there are none
abbrev pub last_of : ℕ → List Spell → ℕ
last_of time [] = time
last_of time (x ∷ xs) = last_of x.time xs

-- how short a bucket is whose limit was set at a time, with so much in it, behind so many turns; these are all beats so far
abbrev pub short_now : Limit → ℕ → ℕ → ℕ → List Beat → ℕ
short_now l set_at held turn bs = short_after l set_at (l.burst - held) (drop turn (spells bs))

-- its time: that of the last turn, or the time at which it was set
abbrev pub time_now : ℕ → ℕ → List Beat → ℕ
time_now set_at turn bs = last_of set_at (drop turn (spells bs))

-- A side's two buckets: how short each is of full, as they were last brought up to date, and when that was. They are not touched as time
-- goes on: what a bucket holds at a later time is told by what came since.
pub record Gauge : Type 0 where
  pub time : ℕ
  pub read : ℕ
  pub write : ℕ

-- what stands for the buckets of a side without a limit
abbrev pub no_gauge : Gauge
no_gauge = record { time = 0; read = 0; write = 0 }

-- how short a bucket was then
abbrev pub short_of : Gauge → Dir → ℕ
short_of x dir.Read = x.read
short_of x dir.Write = x.write

-- how short a bucket is at a time
abbrev pub short_at : LimitCfg → Gauge → Dir → ℕ → ℕ
short_at cfg x d time = refilled (limit_of cfg d) x.time time (short_of x d)

-- what it holds then
abbrev pub held_at : LimitCfg → Gauge → Dir → ℕ → ℕ
held_at cfg x d time = (limit_of cfg d).burst - short_at cfg x d time

-- both brought up to date
abbrev pub brought : LimitCfg → ℕ → Gauge → Gauge
brought cfg time x = record { time = time; read = short_at cfg x dir.Read time; write = short_at cfg x dir.Write time }

-- bytes are moved
abbrev pub spent_by : Dir → ℕ → Gauge → Gauge
spent_by dir.Read n x = record x { read = x.read + n }
spent_by dir.Write n x = record x { write = x.write + n }

-- a first limit, and one in the place of another
abbrev pub first_gauge : LimitCfg → ℕ → Gauge
first_gauge cfg time = record { time = time; read = cfg.read_burst - cfg.read_rate; write = cfg.write_burst - cfg.write_rate }

abbrev pub next_gauge : LimitCfg → LimitCfg → ℕ → Gauge → Gauge
next_gauge was cfg time x = record {
  time = time;
  read = cfg.read_burst - min (held_at was x dir.Read time) cfg.read_burst;
  write = cfg.write_burst - min (held_at was x dir.Write time) cfg.write_burst;
}

-- bytes are moved under a limit, or without one
abbrev pub gauge_after : Option Standing → ℕ → Dir → ℕ → Gauge → Gauge
gauge_after None time d n x = x
gauge_after (Some y) time d n x = spent_by d n (brought y.cfg time x)

-- the gauge of a side whose link opens
abbrev pub gauge_begun : Option LimitCfg → ℕ → Gauge
gauge_begun None time = no_gauge
gauge_begun (Some cfg) time = first_gauge cfg time

-- the gauge once another limit stands, or none
abbrev pub gauge_set : Option Standing → Option LimitCfg → ℕ → Gauge → Gauge
gauge_set was None time x = no_gauge
gauge_set None (Some cfg) time x = first_gauge cfg time
gauge_set (Some was) (Some cfg) time x = next_gauge was.cfg cfg time x
