use Rattle.std.proofs.Common.{◌≡◌, ◌++◌, take, drop, map}
use Rattle.rate_group.specs.GroupList.{group_values, counts_of}
use Rattle.rate_group.specs.Steps.{refilled_to}
use Rattle.rate_group.proofs.group_list.refill_all.Given as goal

abbrev pub invariant-loop-group : goal.invariant-loop-group
invariant-loop-group l = record {
  values : group_values l.groups
      ≡ map (refilled_to l.now) (take l.group-index (group_values l.initial.groups)) ++ drop l.group-index (group_values l.initial.groups);
  counts : counts_of l.groups ≡ counts_of l.initial.groups;
}
