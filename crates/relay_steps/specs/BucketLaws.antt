-- Buckets: the one number that is kept of each is what the model has as the least over all turns since its limit was set. Groups: what is
-- kept of each is what the model has.
use Rattle.std.specs.Prelude.{◌≡◌, ℕ, ◌-◌, ◌<◌, ◌≤◌, List, Some, slice_get}
use Rattle.token_bucket.specs.declared.limit.Dir.{Dir}
use Rattle.ev_types.specs.declared.side.SideId.{SideId}
use Rattle.ev_types.specs.Trace.{Trace}
use Rattle.relay_model.specs.Plain.{Standing, side_at}
use Rattle.relay_model.specs.Rates.{level, side_spells, standing_level}
use Rattle.token_bucket.specs.Spells.{Spell}
use Rattle.token_bucket.specs.Levels.{Limit, held}
use Rattle.rate_group.specs.GroupValue.{GroupValue}
use Rattle.rate_group.specs.Steps.{lane_of, count_in}
use Rattle.relay_model.specs.Groups.{group_spells, group_level, is_suspended, members}
use Rattle.relay_model.specs.Past.{past}
use Rattle.relay_model.specs.Rooms as model
use Rattle.relay_model.specs.Settings.{Settings, GroupSet}
use Rattle.relay_model.specs.Stages.{Stage}
use Rattle.relay_state.specs.Running.{Ascend, short_after, held_at}
use Rattle.relay_state.specs.Rooms.{share}
use Rattle.relay_state.specs.State.{State, gauge_at}
use Rattle.relay_steps.specs.Meaning.{StandsFor}

-- What a bucket holds is the least over the turns since its limit was set; it is also the burst less how short of full the bucket is, by
-- one number that each turn lessens by what came and raises by what is moved. It held no more than its burst as the limit was set, and
-- the turns don't fall in time.
abbrev pub RunningIsLeast : Type 0
RunningIsLeast = (l : Limit) (set_at held : ℕ) (later : List Spell) (time : ℕ) → 0 < l.tick → held ≤ l.burst →
    Ascend set_at later time → level l set_at held later time ≡ l.burst - short_after l set_at (l.burst - held) later

-- Where a relay stands for a trace, each bucket of a side with a limit holds by its gauge what the trace says.
abbrev pub GaugesTellLevels : Type 0
GaugesTellLevels = (t : Trace) (x : Stage) (s : State) → StandsFor t x s → (e : SideId) (y : Standing) →
    (side_at s.plain e).limit ≡ Some y → (d : Dir) →
    held_at y.cfg (gauge_at s e) d s.plain.time ≡ standing_level y d (side_spells e d t) s.plain.time

-- A direction of a group holds what the trace says, and is suspended where the trace says so.
pub record DirectionTold (g : Settings) (t : Trace) (time n : ℕ) (y : GroupSet) (v : GroupValue) (d : Dir) : Type 0 where
  pub holds : held (lane_of v d).level ≡ group_level y d (group_spells g n d t) time
  pub suspended : (lane_of v d).suspended ≡ is_suspended y d (group_spells g n d t)

-- Where a relay stands for a trace, each group of the settings is kept: it has as many members as the model counts, and each direction is
-- as the trace says.
abbrev pub GroupsTellLevels : Type 0
GroupsTellLevels = (t : Trace) (x : Stage) (s : State) → StandsFor t x s → (n : ℕ) (y : GroupSet) →
    slice_get s.settings.groups n ≡ Some y → (v : GroupValue) × (slice_get s.groups.groups n ≡ Some v)
    × (count_in n s.groups.members ≡ members s.plain n) × ((d : Dir) → DirectionTold s.settings t s.plain.time n y v d)

-- What a side's group leaves to it is what the trace says, and a side in no group has no share.
abbrev pub GroupsTellShares : Type 0
GroupsTellShares = (t : Trace) (x : Stage) (s : State) → StandsFor t x s → (e : SideId) (d : Dir) →
    share s e d ≡ model.share s.settings (past s.settings t) s.plain e d
