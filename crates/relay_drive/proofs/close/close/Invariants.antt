use Rattle.std.proofs.Common.{◌≡◌, ◌-◌, ◌≤◌, false}
use Rattle.relay_drive.specs.Steps.{Each}
use Rattle.relay_drive.specs.Phases.{ClosesLink, links_from}
use Rattle.relay_drive.specs.Known.{Point}
use Rattle.relay_drive.specs.Agenda.{IsKept, KeepsNames}
use Rattle.relay_drive.specs.Moves.{Moves}
use Rattle.relay_drive.proofs.close.close.Given as goal

abbrev pub invariant-loop-link : goal.invariant-loop-link
invariant-loop-link g l = record {
  went : Moves g.P.Port g.S.Scribe Point.Accepted Point.Accepted false (Each ClosesLink (links_from 0 l.from))
      (l.fn.run, l.fn.port, l.fn.scribe) (l.run, l.port, l.scribe);
  kept : IsKept l.agenda l.run.relay.state;
  names : KeepsNames l.fn.agenda l.fn.run.relay.state l.agenda l.run.relay.state;
  opened : l.run.relay.state.plain.opened ≡ l.fn.run.relay.state.plain.opened;
  within : l.from ≤ l.fn.run.relay.state.plain.opened;
}

abbrev pub decreases-loop-link : goal.decreases-loop-link
decreases-loop-link g l = l.fn.run.relay.state.plain.opened - l.from
