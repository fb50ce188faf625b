use Rattle.std.proofs.Common.{◌≡◌, ◌≤◌, ◌-◌}
use Rattle.std.specs.Prelude.{filter, vec_len, vec_capacity}
use Rattle.ev_port.specs.Marking.{marks_by, after_marks}
use Rattle.ev_port.specs.Table.{is_marked, rows_before}
use Rattle.ev_port.proofs.MarkLemmas.{walk_at}
use Rattle.ev_port.proofs.table.mark_rows.Given as goal

-- the rows so far were marked, and those with a mark are listed
abbrev pub invariant-loop-number : goal.invariant-loop-number
invariant-loop-number g l = record {
  walk : l.walk ≡ walk_at l.read l.read l.write l.write l.walk.from;
  list : l.list.items ≡ filter is_marked (marks_by g.M.MarkWant.marked g.M.MarkWant.after l.fn.marker (rows_before l.read.has l.write.has l.walk.from));
  after : l.marker ≡ after_marks g.M.MarkWant.after l.fn.marker (rows_before l.read.has l.write.has l.walk.from);
  within : l.walk.from ≤ l.sides;
  few : vec_len l.list ≤ l.walk.from;
  room : vec_capacity l.fn.list ≤ vec_capacity l.list;
}

abbrev pub decreases-loop-number : goal.decreases-loop-number
decreases-loop-number g l = l.sides - l.walk.from
