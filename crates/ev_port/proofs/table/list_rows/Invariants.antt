use Rattle.std.proofs.Common.{◌≡◌, ◌≤◌, ◌-◌}
use Rattle.std.specs.Prelude.{vec_len, vec_capacity}
use Rattle.ev_port.specs.Table.{rows_before}
use Rattle.ev_port.proofs.MarkLemmas.{walk_at}
use Rattle.ev_port.proofs.table.list_rows.Given as goal

-- the rows so far are listed
abbrev pub invariant-loop-number : goal.invariant-loop-number
invariant-loop-number l = record {
  walk : l.walk ≡ walk_at l.read l.read l.write l.write l.walk.from;
  list : l.list.items ≡ rows_before l.read.has l.write.has l.walk.from;
  within : l.walk.from ≤ l.sides;
  few : vec_len l.list ≤ l.walk.from;
  room : vec_capacity l.fn.list ≤ vec_capacity l.list;
}

abbrev pub decreases-loop-number : goal.decreases-loop-number
decreases-loop-number l = l.sides - l.walk.from
