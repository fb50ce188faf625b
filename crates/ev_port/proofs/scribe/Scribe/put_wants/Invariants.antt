use Rattle.std.proofs.Common.{◌≤◌, ◌+◌, ◌-◌, ◌*◌, length}
use Rattle.ev_types.specs.Growth.{Grew}
use Rattle.ev_port.specs.Polling.{want_events}
use Rattle.ev_port.specs.Table.{named_before}
use Rattle.ev_port.proofs.scribe.Scribe.put_wants.Given as goal

-- the wants so far are put
abbrev pub invariant-loop-want : goal.invariant-loop-want
invariant-loop-want g l = record {
  within : l.from ≤ 2 * l.wants.links;
  trace : Grew (g.Self.Scribe.trace l.fn.self) (g.Self.Scribe.trace l.self) (want_events (named_before l.wants l.from));
  entries : g.Self.Scribe.spare_entries l.fn.self ≤ g.Self.Scribe.spare_entries l.self + length (named_before l.wants l.from);
  bytes : g.Self.Scribe.spare_bytes l.fn.self ≤ g.Self.Scribe.spare_bytes l.self;
}

abbrev pub decreases-loop-want : goal.decreases-loop-want
decreases-loop-want g l = 2 * l.wants.links - l.from
