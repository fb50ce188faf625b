use Rattle.std.proofs.Common.{◌≡◌, ◌+◌, ◌≤◌, ◌++◌, ℕ, List, take, map, length}
use Rattle.std.specs.Vec.{vec_len, vec_capacity}
use Rattle.rate_group.specs.GroupList.{group_values, Counted}
use Rattle.rate_group.specs.Steps.{made}
use Rattle.rate_group.proofs.group_list.push_all.Given as goal

abbrev pub invariant-loop-set : goal.invariant-loop-set
invariant-loop-set l = record {
  values : group_values l.groups.items
      ≡ group_values l.fn.groups.items ++ map (λ s. made s.cfg s.share l.now) (take l.set-index l.sets);
  counted : (members : List (ℕ × ℕ)) → Counted l.fn.groups.items members → Counted l.groups.items members;
  room : vec_len l.groups + length l.sets ≤ vec_capacity l.groups + l.set-index;
}
