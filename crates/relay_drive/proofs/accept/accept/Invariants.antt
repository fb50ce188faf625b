use Rattle.std.proofs.Common.{◌≡◌, ◌+◌, ◌≤◌, false}
use Rattle.relay_drive.specs.Phases.{OpensSome}
use Rattle.relay_drive.specs.Known.{Point}
use Rattle.relay_drive.specs.Agenda.{IsKept, KeepsNames}
use Rattle.relay_drive.specs.Moves.{Moves}
use Rattle.relay_drive.proofs.accept.accept.Given as goal

abbrev pub invariant-loop : goal.invariant-loop
invariant-loop g l = record {
  went : Moves g.P.Port g.S.Scribe Point.Begun Point.Accepting false (OpensSome l.counter) (l.fn.run, l.fn.port, l.fn.scribe)
      (l.run, l.port, l.scribe);
  few : l.counter ≤ 64;
  grown : l.run.relay.state.plain.opened ≡ l.fn.run.relay.state.plain.opened + l.counter;
  kept : IsKept l.agenda l.run.relay.state;
  names : KeepsNames l.fn.agenda l.fn.run.relay.state l.agenda l.run.relay.state;
}
