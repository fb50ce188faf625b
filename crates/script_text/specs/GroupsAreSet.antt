-- The groups of a script and who is in them, as its lines leave them.
use Rattle.std.specs.Prelude.{◌<◌, ◌≤◌, List, length, IfSome}
use Rattle.std.specs.List.{All}
use Rattle.rate_group.specs.declared.group_set.GroupSet.{GroupSet}
use Rattle.script_text.specs.declared.members.Members.{Members}

-- There are at most 64 groups, no share is 0, and who is a member is one of a group that there is.
pub record GroupsAreSet (groups : List GroupSet) (members : Members) : Type 0 where
  pub few : length groups ≤ 64
  pub shares : All (λ (x : GroupSet). 0 < x.share) groups
  pub in_group : IfSome members.in_group (λ n. n < length groups)
  pub out_group : IfSome members.out_group (λ n. n < length groups)
