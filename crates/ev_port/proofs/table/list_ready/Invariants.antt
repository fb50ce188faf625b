use Rattle.std.proofs.Common.{◌≡◌, ◌≤◌, ◌-◌}
use Rattle.std.specs.Prelude.{vec_len, vec_capacity}
use Rattle.ev_port.proofs.MarkLemmas.{marked_before, walk_at}
use Rattle.ev_port.proofs.table.list_ready.Given as goal

-- the rows so far that have a mark are listed
abbrev pub invariant-loop-number : goal.invariant-loop-number
invariant-loop-number l = record {
  walk : l.walk ≡ walk_at l.rows.0.now l.ready.0.now l.rows.1.now l.ready.1.now l.walk.from;
  list : l.list.items ≡ marked_before l.rows.0.now.has l.rows.1.now.has l.ready.0.now l.ready.1.now l.walk.from;
  within : l.walk.from ≤ l.sides;
  few : vec_len l.list ≤ l.walk.from;
  room : vec_capacity l.fn.list ≤ vec_capacity l.list;
}

abbrev pub decreases-loop-number : goal.decreases-loop-number
decreases-loop-number l = l.sides - l.walk.from
