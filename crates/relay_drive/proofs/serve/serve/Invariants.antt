use Rattle.std.proofs.Common.{◌≡◌, false, take}
use Rattle.std.specs.Prelude.{vec_len}
use Rattle.relay_drive.specs.Steps.{Each}
use Rattle.relay_drive.specs.Phases.{ServesSide}
use Rattle.relay_drive.specs.Known.{Point}
use Rattle.relay_drive.specs.Agenda.{IsKept, KeepsNames}
use Rattle.relay_drive.specs.Moves.{Moves}
use Rattle.relay_drive.proofs.serve.serve.Given as goal

abbrev pub invariant-loop-want : goal.invariant-loop-want
invariant-loop-want g l = record {
  went : Moves g.P.Port g.S.Scribe Point.Accepted Point.Accepted false (Each ServesSide (take l.want-index l.wants))
      (l.fn.run, l.fn.port, l.fn.scribe) (l.run, l.port, l.scribe);
  kept : IsKept l.agenda l.run.relay.state;
  names : KeepsNames l.fn.agenda l.fn.run.relay.state l.agenda l.run.relay.state;
  opened : l.run.relay.state.plain.opened ≡ l.fn.run.relay.state.plain.opened;
  inbox : vec_len l.inbox ≡ 16384;
}
