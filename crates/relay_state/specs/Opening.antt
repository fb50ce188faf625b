-- Opening a link.
use Rattle.std.specs.Prelude.{ℕ, Bool, [], ◌∷◌, ◌++◌, Option, Some, None}
use Rattle.ev_types.specs.declared.side.Side.{Side}
use Rattle.ev_types.specs.declared.side.Side.TheVariants.{In, Out}
use Rattle.ev_types.specs.declared.side.SideId.{SideId}
use Rattle.ev_types.specs.Sides.{number}
use Rattle.rate_group.specs.GroupValue.{GroupsValue}
use Rattle.rate_group.specs.Steps.{joined}
use Rattle.relay_model.specs.Settings.{Settings, rate_set, group_set}
use Rattle.relay_model.specs.Plain.{with_link}
use Rattle.relay_model.specs.Rooms.{read_kind, write_kind}
use Rattle.relay_model.specs.Conserved.{no_buffers}
use Rattle.filter_model.specs.FilterStep.{begun}
use Rattle.relay_state.specs.State.{State, Lane}
use Rattle.relay_state.specs.Running.{gauge_begun}

-- a direction of a new link, from one side to the other
abbrev pub new_lane : Settings → Side → Side → Lane
new_lane g from to = record {
  buffers = no_buffers;
  reader = begun (read_kind g from);
  writer = begun (write_kind g to);
  read = 0;
  read_made = 0;
  write_made = 0;
}

-- a side joins the group that it is given, or none
abbrev pub joined_where : Option ℕ → SideId → GroupsValue → GroupsValue
joined_where None e x = x
joined_where (Some n) e x = joined n (number e) x

-- The next link has its In side, which is connected, and its Out side. Each joins the group of the settings, In first.
abbrev pub after_opened : State → Bool → State
after_opened s connected = record s {
  plain = with_link s.settings connected s.plain;
  lanes = s.lanes ++ new_lane s.settings In Out ∷ new_lane s.settings Out In ∷ [];
  gauges = s.gauges ++ gauge_begun (rate_set s.settings In) s.plain.time ∷ gauge_begun (rate_set s.settings Out) s.plain.time ∷ [];
  groups =
      joined_where (group_set s.settings Out) (record { link = s.plain.opened; side = Out })
      (joined_where (group_set s.settings In) (record { link = s.plain.opened; side = In }) s.groups);
}
