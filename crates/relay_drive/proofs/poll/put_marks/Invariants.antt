use Rattle.std.proofs.Common.{◌≡◌, ◌≤◌, ◌+◌, length, take}
use Rattle.ev_types.specs.Growth.{Grew}
use Rattle.ev_port.specs.Counting.{counted}
use Rattle.ev_port.specs.Polling.{ready_events}
use Rattle.relay_drive.proofs.poll.put_marks.Given as goal

abbrev pub invariant-loop-want : goal.invariant-loop-want
invariant-loop-want g l = record {
  counted : counted l.entries 0 ≡ counted l.fn.entries (length (ready_events (take l.want-index l.wants)));
  list : Grew (g.S.Scribe.trace l.fn.scribe) (g.S.Scribe.trace l.scribe) (ready_events (take l.want-index l.wants));
  room : g.S.Scribe.spare_entries l.fn.scribe ≤ g.S.Scribe.spare_entries l.scribe + l.want-index;
}
