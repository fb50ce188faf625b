use Rattle.std.proofs.Common.{◌≡◌, ◌≤◌, drop, length, Option}
use Rattle.std.specs.List.{All}
use Rattle.ev_types.specs.Growth.{Grew}
use Rattle.ev_types.specs.Trace.{Trace, bytes_beside}
use Rattle.ev_port.specs.Counting.{counted}
use Rattle.relay_core.specs.Fires.{events_of}
use Rattle.relay_drive.proofs.dispatch.put_all.Given as goal

-- What is left of the entries fits, and behind it all of them stand.
abbrev pub invariant-loop-entry : goal.invariant-loop-entry
invariant-loop-entry g l = record {
  room : length (drop l.entry-index l.log) ≤ g.S.Scribe.spare_entries l.scribe;
  beside : All (λ e. bytes_beside e ≡ 0) (drop l.entry-index l.log);
  list : (z : Option Trace) → Grew (g.S.Scribe.trace l.scribe) z (events_of (drop l.entry-index l.log)) →
      Grew (g.S.Scribe.trace l.fn.scribe) z (events_of l.log);
  counted : counted l.entries (length (drop l.entry-index l.log)) ≡ counted l.fn.entries (length l.log);
}
