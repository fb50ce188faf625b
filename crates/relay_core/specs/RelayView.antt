-- How the relay keeps its state.
use Rattle.std.specs.Prelude.{◌≡◌, ℕ, ◌+◌, ◌-◌, ◌*◌, ◌^◌, ◌≤◌, ◌<◌, ◌&&◌, ◌||◌, nat_le, min, if◌then◌else◌, Bool, true, false, [], length}
use Rattle.std.specs.Prelude.{None}
use Rattle.std.specs.Prelude.{vec_len, vec_capacity, IfSome}
use Rattle.std.specs.List.{All}
use Rattle.ev_types.specs.Usual.{no_timeouts}
use Rattle.ev_types.specs.declared.settings.Settings.{Settings}
use Rattle.rate_group.specs.GroupValue.{GroupValue, GroupsValue}
use Rattle.rate_group.specs.GroupsCalls.{no_groups}
use Rattle.relay_model.specs.Plain.{PlainSide}
use Rattle.relay_state.specs.Running.{Gauge}
use Rattle.relay_state.specs.State.{State}
use Rattle.relay_sides.specs.Links.{Links}
use Rattle.relay_sides.specs.Opening.{limits_in}
use Rattle.relay_waits.specs.WaitsValue.{WaitsValue}
use Rattle.relay_core.specs.Fires.{events_of}
use Rattle.relay_core.specs.GivenGroups.{settings_given}
use Rattle.relay_core.specs.RelayValue.{RelayValue}
use Rattle.relay_core.specs.Timeless.{IsWatching, IsGrouping}
use Rattle.relay_core.specs.declared.ctl.Ctl.TheInside.{Inside}
use Rattle.relay_core.specs.declared.rate_groups.RateGroups.{RateGroups}

-- with these links, and this that waits
abbrev pub state_over : Inside → Links → WaitsValue → State
state_over r k w = record {
  settings = settings_given r.settings r.given w.hooks;
  plain = record {
    time = r.time;
    turn = r.turns;
    opened = k.opened;
    sides = k.sides;
    flows = k.flows;
    timers = w.timers;
    due = w.due;
  };
  lanes = k.lanes;
  batch = w.batch;
  gauges = k.gauges;
  groups = r.groups.value;
}

-- with these links
abbrev pub state_with : Inside → Links → State
state_with r k = state_over r k r.waits

-- There is memory for the limits of a new link, room for its sides in the groups, and a place among those that may be watched.
abbrev pub has_room_for_rates : Inside → Bool
has_room_for_rates r =
    nat_le (r.sides.links.opened + 1) r.resting.watched.len
    && nat_le (2 * (r.sides.links.opened + 1)) (length r.resting.moments)
    && nat_le (r.sides.links.opened + 1) r.grouped.len
    && nat_le (limits_in r.settings.in_rate + limits_in r.settings.out_rate) r.spare_limits
    && (nat_le (length r.given.groups.items) 0 || nat_le 2 r.groups.spare)

abbrev pub relay_of : Inside → RelayValue
relay_of r = record {
  state = state_with r r.sides.links;
  spare_links = if has_room_for_rates r then r.sides.spare_links else 0;
  spare_reads = r.sides.spare_reads;
  kept = r.sides.kept;
  untimed = r.untimed;
  watched = r.resting.watched;
  me = r.me;
  asks = r.asks;
  stopped = r.stopped;
  log = events_of r.log.items;
  fire_room = min (vec_capacity r.log) (2 * r.spare_limits);
}

-- What is so of a side: its activity is not ahead of the time; where nothing is timed it has no timeouts, none has passed, and it has no
-- limit.
abbrev pub IsSoundSide : ℕ → Bool → PlainSide → Type 0
IsSoundSide time untimed x =
    (x.last_read ≤ time) × (x.last_write ≤ time)
    × (untimed ≡ true → (x.timeouts ≡ no_timeouts) × (x.expired ≡ false) × (x.limit ≡ None))

-- no side of a new link gets a timeout or a limit
pub record IsUnset (g : Settings) : Type 0 where
  pub in_timeouts : g.in_timeouts ≡ no_timeouts
  pub out_timeouts : g.out_timeouts ≡ no_timeouts
  pub in_rate : g.in_rate ≡ None
  pub out_rate : g.out_rate ≡ None

-- what is so of the sides, with the settings of the next link; their buckets have what came no later than the time
pub record AreSound (g : Settings) (time : ℕ) (untimed : Bool) (k : Links) : Type 0 where
  pub unset : untimed ≡ true → IsUnset g
  pub sides : All (IsSoundSide time untimed) k.sides
  pub gauges : All (λ (x : Gauge). x.time ≤ time) k.gauges

-- What is so of the groups: there are as many as were given, which have numbers of 32 bits, and the sides of a new link join one that there
-- is. Where none was given, nobody is in one; and so it is where nothing is timed. No member has a share of nothing.
pub record HasGroups (given : RateGroups) (still : Bool) (x : GroupsValue) : Type 0 where
  pub many : length x.groups ≡ length given.groups.items
  pub few : length given.groups.items ≤ 2 ^ 32
  pub in_group : IfSome given.in_group (λ n. n < length given.groups.items)
  pub out_group : IfSome given.out_group (λ n. n < length given.groups.items)
  pub none : given.groups.items ≡ [] → x ≡ no_groups
  pub untimed : still ≡ true → given.groups.items ≡ []
  pub shares : All (λ (g : GroupValue). 1 ≤ g.least) x.groups

-- There is room for the events of all asks that the running hook may still make, and memory for the limits that it may set.
pub record IsSound (r : Inside) : Type 0 where
  pub timed : AreSound r.settings r.time r.untimed r.sides.links
  pub grouped : HasGroups r.given r.untimed r.groups.value
  pub watching : IsWatching r.resting r.time r.sides.links
  pub grouping : IsGrouping r.grouped r.sides.links.opened r.groups.value.members
  pub time : r.time ≤ 2 ^ 62
  pub few : r.asks ≤ 256
  pub room : vec_len r.log + 2 * (256 - r.asks) ≤ vec_capacity r.log
  pub limits : 256 - r.asks ≤ r.spare_limits
