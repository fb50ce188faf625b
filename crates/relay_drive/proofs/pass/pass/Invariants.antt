use Rattle.std.proofs.Common.{◌≡◌, ◌-◌, ◌≤◌, []}
use Rattle.relay_drive.specs.Steps.{Each}
use Rattle.relay_drive.specs.Phases.{PassesLink, links_from}
use Rattle.relay_drive.specs.Agenda.{IsKept, KeepsNames}
use Rattle.relay_drive.proofs.pass.pass.Given as goal

abbrev pub invariant-loop-link : goal.invariant-loop-link
invariant-loop-link l = record {
  went : Each PassesLink (links_from 0 l.from) l.fn.relay.state [] l.relay.state;
  kept : IsKept l.agenda l.relay.state;
  names : KeepsNames l.fn.agenda l.fn.relay.state l.agenda l.relay.state;
  time : l.relay.state.plain.time ≡ l.fn.relay.state.plain.time;
  settings : l.relay.state.settings ≡ l.fn.relay.state.settings;
  opened : l.relay.state.plain.opened ≡ l.fn.relay.state.plain.opened;
  within : l.from ≤ l.fn.relay.state.plain.opened;
}

abbrev pub decreases-loop-link : goal.decreases-loop-link
decreases-loop-link l = l.fn.relay.state.plain.opened - l.from
