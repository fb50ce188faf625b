use Rattle.std.proofs.Common.{◌≡◌, ◌++◌, drop}
use Rattle.std.specs.Option.{option_to_list}
use Rattle.rate_group.specs.GroupList.{gains_counted}
use Rattle.rate_group.specs.Gains.{first_moment}
use Rattle.rate_group.proofs.group_list.first_gain.Given as goal

-- what was found and what is left have the first of all
abbrev pub invariant-loop-group : goal.invariant-loop-group
invariant-loop-group l =
    first_moment (option_to_list l.first ++ gains_counted l.time (drop l.group-index l.groups)) ≡ first_moment
    (gains_counted l.time l.groups)
