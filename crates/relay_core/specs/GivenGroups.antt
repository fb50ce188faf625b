-- What the relay is given of limits and groups, as the model's settings have it.
use Rattle.std.specs.Prelude.{◌<◌, ◌≤◌, ◌^◌, length, map, List, IfSome}
use Rattle.std.specs.List.{All}
use Rattle.ev_types.specs.declared.side.SideId.{SideId}
use Rattle.ev_types.specs.declared.settings.Settings as code
use Rattle.rate_group.specs.declared.group_set.GroupSet as given
use Rattle.relay_model.specs.Settings.{Settings, GroupSet, settings_with}
use Rattle.relay_core.specs.declared.rate_groups.RateGroups.{RateGroups}

-- a group that is given
abbrev pub group_given : given.GroupSet → GroupSet
group_given x = record { cfg = x.cfg; share = x.share }

-- what a run is started with, with these groups, and these sides having a hook
abbrev pub settings_given : code.Settings → RateGroups → List SideId → Settings
settings_given g x hooks =
    record (settings_with g hooks) { groups = map group_given x.groups.items; in_group = x.in_group; out_group = x.out_group }

-- Each number is that of a group, no share is 0, and there are no more groups than numbers.
pub record AreGroups (x : RateGroups) : Type 0 where
  pub few : length x.groups.items ≤ 2 ^ 32
  pub shares : All (λ (y : given.GroupSet). 0 < y.share) x.groups.items
  pub in_group : IfSome x.in_group (λ n. n < length x.groups.items)
  pub out_group : IfSome x.out_group (λ n. n < length x.groups.items)
