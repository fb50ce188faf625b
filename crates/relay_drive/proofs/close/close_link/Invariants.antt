use Rattle.std.proofs.Common.{◌≡◌, false, take}
use Rattle.std.specs.List.{All}
use Rattle.relay_core.specs.Steps.{steps_of}
use Rattle.relay_drive.specs.Links.{IsUncalled}
use Rattle.relay_drive.specs.Steps.{Each}
use Rattle.relay_drive.specs.Phases.{LooksAt}
use Rattle.relay_drive.specs.Known.{Point}
use Rattle.relay_drive.specs.Moves.{Moves}
use Rattle.relay_drive.proofs.close.close_link.Given as goal

abbrev pub invariant-loop-step : goal.invariant-loop-step
invariant-loop-step g l = record {
  went : Moves g.P.Port g.S.Scribe Point.Accepted Point.Accepted false (Each LooksAt (take l.step-index (steps_of l.link)))
      (l.fn.run, l.fn.port, l.fn.scribe) (l.run, l.port, l.scribe);
  uncalled : l.any ≡ false → (l.run.relay.state ≡ l.fn.run.relay.state) × All (IsUncalled l.fn.run.relay.state)
      (take l.step-index (steps_of l.link));
  kept : l.run.relay.state.plain.opened ≡ l.fn.run.relay.state.plain.opened;
}
