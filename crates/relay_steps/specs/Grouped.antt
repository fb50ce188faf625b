-- When the groups that a relay keeps fit a trace.
use Rattle.std.specs.Prelude.{◌≡◌, ℕ, ◌-◌, ◌/◌, ◌<◌, false, List, [], length, count_by, slice_get, Some, None, nat_eq}
use Rattle.std.specs.List.{IsDistinct}
use Rattle.std.specs.Map.{keys_of}
use Rattle.token_bucket.specs.declared.limit.Dir.{Dir}
use Rattle.token_bucket.specs.Levels.{limit_of}
use Rattle.token_bucket.specs.Spells.{Beat, spells}
use Rattle.ev_types.specs.declared.side.SideId.{SideId}
use Rattle.ev_types.specs.Sides.{number}
use Rattle.ev_types.specs.Trace.{Trace}
use Rattle.rate_group.specs.GroupValue.{Lane, GroupValue, GroupsValue}
use Rattle.rate_group.specs.Steps.{lane_of, count_in, group_of}
use Rattle.relay_model.specs.Settings.{Settings, GroupSet}
use Rattle.relay_model.specs.Plain.{Plain, side_at, is_live, all_sides}
use Rattle.relay_model.specs.Groups.{same_group, beats_among, least_share, is_suspended}
use Rattle.relay_state.specs.Running.{short_after, Ascend}

-- how many sides are in a group
abbrev pub sides_in : Plain → ℕ → ℕ
sides_in p n = count_by (λ e. same_group (side_at p e).group n) (all_sides p)

-- how short a group's bucket is of full by what happened to it: it held the rate at time 0
abbrev pub group_short : GroupSet → Dir → List Beat → ℕ
group_short x d bs = let l = limit_of x.cfg d in short_after l 0 (l.burst - l.rate) (spells bs)

-- One direction of a group fits what happened to its bucket: it is as short of full as that says, and suspended where that says so.
-- Besides, its turns ascend to the time.
pub record GroupLaneFits (x : GroupSet) (d : Dir) (bs : List Beat) (time : ℕ) (v : Lane) : Type 0 where
  pub burst : v.level.burst ≡ (limit_of x.cfg d).burst
  pub short : v.level.short ≡ group_short x d bs
  pub suspended : v.suspended ≡ is_suspended x d (spells bs)
  pub ascend : Ascend 0 (spells bs) time

-- A group fits a trace at a time: its limit and its least share are those of the settings, it has what came up to the tick, and both
-- directions fit what the trace is to the group.
pub record GroupFits (g : Settings) (t : Trace) (time n : ℕ) (x : GroupSet) (v : GroupValue) : Type 0 where
  pub cfg : v.cfg ≡ x.cfg
  pub least : v.least ≡ least_share x
  pub tick : v.tick ≡ time / x.cfg.tick_ms
  pub each : (d : Dir) → GroupLaneFits x d (beats_among g n d [] t) time (lane_of v d)

-- So does each group of the settings. The members are the sides that have a group, each once, and each group counts its own. A side's
-- group is one of the settings, and a side that isn't live has none.
pub record Grouped (g : Settings) (t : Trace) (p : Plain) (x : GroupsValue) : Type 0 where
  pub many : length x.groups ≡ length g.groups
  pub each : (n : ℕ) (y : GroupSet) (v : GroupValue) → slice_get g.groups n ≡ Some y → slice_get x.groups n ≡ Some v →
      GroupFits g t p.time n y v
  pub member : (e : SideId) → group_of (number e) x.members ≡ (side_at p e).group
  pub once : IsDistinct nat_eq (keys_of x.members)
  pub counted : (n : ℕ) → count_in n x.members ≡ sides_in p n
  pub known : (e : SideId) (n : ℕ) → (side_at p e).group ≡ Some n → n < length g.groups
  pub freed : (e : SideId) → is_live p e ≡ false → (side_at p e).group ≡ None
