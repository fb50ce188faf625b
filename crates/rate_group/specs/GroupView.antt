-- How the code keeps groups.
use Rattle.rate_group.specs.declared.groups.Groups.TheInside as groups
use Rattle.indexmap.specs.IndexMap.{spare}
use Rattle.rate_group.specs.GroupValue.{GroupsValue, GroupsKept}
use Rattle.rate_group.specs.GroupList.{group_values, Counted}

abbrev pub groups_value : groups.Inside → GroupsValue
groups_value g = record { groups = group_values g.groups.items; members = g.members.entries }

-- The room for members is that of the list of members.
abbrev pub groups_kept : groups.Inside → GroupsKept
groups_kept g = record { value = groups_value g; spare = spare g.members }

-- Each group counts its members, and each member is in a group that was made.
abbrev pub HasCounts : groups.Inside → Type 0
HasCounts g = Counted g.groups.items g.members.entries
