-- When the buckets that a relay keeps fit a trace.
use Rattle.std.specs.Prelude.{◌≡◌, ℕ, ◌*◌, ◌≤◌, ◌<◌, List, length, map, drop, Some}
use Rattle.token_bucket.specs.declared.limit.Dir.{Dir}
use Rattle.ev_types.specs.declared.side.SideId.{SideId}
use Rattle.ev_types.specs.Trace.{Trace}
use Rattle.relay_model.specs.Plain.{Plain, Standing, side_at}
use Rattle.relay_model.specs.Rates.{beat_of, side_spells, held_as_set}
use Rattle.token_bucket.specs.Spells.{Beat}
use Rattle.token_bucket.specs.Levels.{limit_of}
use Rattle.relay_state.specs.Running.{Ascend, short_now, Gauge, short_at}
use Rattle.relay_state.specs.State.{gauge_in}

-- what a trace is to a side's bucket
abbrev pub beats : SideId → Dir → Trace → List Beat
beats e d t = map (beat_of e d) t

-- how short a bucket under a limit is of full by the trace
abbrev pub short_by : Standing → SideId → Dir → Trace → ℕ
short_by y e d t = short_now (limit_of y.cfg d) y.time (held_as_set y d) y.turn (beats e d t)

-- One bucket of a side fits a trace: at the time it is as short of full as the trace says. Besides, its limit was set in a turn of the
-- trace with no more than its burst, and the turns since then ascend to the time.
pub record BucketFits (t : Trace) (time : ℕ) (y : Standing) (e : SideId) (x : Gauge) (d : Dir) : Type 0 where
  pub short : short_at y.cfg x d time ≡ short_by y e d t
  pub turn : y.turn ≤ length (side_spells e d t)
  pub held : held_as_set y d ≤ (limit_of y.cfg d).burst
  pub ascend : Ascend y.time (drop y.turn (side_spells e d t)) time
  pub ticks : 0 < (limit_of y.cfg d).tick
  pub kept : x.time ≤ time

-- So does each bucket of each side.
pub record Gauged (t : Trace) (p : Plain) (xs : List Gauge) : Type 0 where
  pub many : length xs ≡ 2 * p.opened
  pub each : (e : SideId) (y : Standing) → (side_at p e).limit ≡ Some y → (d : Dir) → BucketFits t p.time y e (gauge_in xs e) d
