-- What the relay keeps for each link that was opened.
use Rattle.std.specs.Prelude.{◌≡◌, ◌*◌, [], None, length}
use Rattle.rate_group.specs.GroupsCalls.{no_groups}
use Rattle.relay_state.specs.State.{State}

-- There are two sides, with their buckets, and two directions for each link. Where no groups are set, nobody is in one or joins
-- one.
pub record HasPairs (s : State) : Type 0 where
  pub sides : length s.plain.sides ≡ 2 * s.plain.opened
  pub flows : length s.plain.flows ≡ 2 * s.plain.opened
  pub lanes : length s.lanes ≡ 2 * s.plain.opened
  pub gauges : length s.gauges ≡ 2 * s.plain.opened
  pub groupless : s.settings.groups ≡ [] → s.groups ≡ no_groups
  pub joins : s.settings.groups ≡ [] → (s.settings.in_group ≡ None) × (s.settings.out_group ≡ None)
