use Rattle.std.proofs.Common.{◌≡◌, ◌≤◌, ◌+◌, ◌-◌, ◌^◌, List, Some, length}
use Rattle.ev_types.specs.declared.plan_line.PlanLine.{PlanLine}
use Rattle.ev_types.specs.declared.side.SideId.{SideId}
use Rattle.std.specs.Prelude.{IsSomeAnd}
use Rattle.relay_model.specs.ClosingTurns.{most_closing_turns}
use Rattle.relay_drive.specs.Seats.{telling, AreSeated}
use Rattle.program_end.specs.Planned.{AllToldOf}
use Rattle.evplay.specs.CameTo.{closing_plan, StandsAfter}
use Rattle.evplay.proofs.ClosingLemmas.{IsClosing}
use Rattle.evplay.proofs.TurnLemmas.{trace_in}
use Rattle.evplay.proofs.closing.make_closing_turns.Given as goal

-- The scribe tells a trace for which the run stands between two turns; what stands in it behind the script's turns are closing turns, each
-- of which was called for. Hooks have told what the trace says.
abbrev pub invariant-loop-made : goal.invariant-loop-made
invariant-loop-made g l = record {
  tells : g.S.Scribe.trace l.scribe ≡ Some (trace_in (g.S.Scribe.trace l.scribe));
  stands : StandsAfter l.fn.drive.state.settings (length l.fn.port.turns + l.made) (closing_plan l.fn.port.turns l.step l.made) l.drive
      l.port (trace_in (g.S.Scribe.trace l.scribe));
  closes : IsClosing l.fn.drive.state.settings l.fn.port.turns (trace_in (g.S.Scribe.trace l.fn.scribe)) l.fn.drive.state.plain
      (trace_in (g.S.Scribe.trace l.scribe));
  most : l.most ≡ most_closing_turns l.fn.port.turns l.fn.drive.state.settings (trace_in (g.S.Scribe.trace l.fn.scribe))
      l.fn.drive.state.plain;
  bounded : l.most ≤ 2 ^ 29;
  seated : AreSeated l.drive.state l.seats.hooks.items l.seats.gone.items;
  told : (plan : SideId → List PlanLine) →
      IsSomeAnd (g.S.Scribe.trace l.fn.scribe) (AllToldOf (telling (λ h. (goal.Hook-dyn g (h.vtable, h.value)).heard h.value)
      (λ h. (goal.Hook-dyn g (h.vtable, h.value)).asked h.value) (λ h. (goal.Hook-dyn g (h.vtable, h.value)).planned h.value)) plan
      l.fn.seats.hooks.items l.fn.seats.gone.items) →
      AllToldOf (telling (λ h. (goal.Hook-dyn g (h.vtable, h.value)).heard h.value)
      (λ h. (goal.Hook-dyn g (h.vtable, h.value)).asked h.value) (λ h. (goal.Hook-dyn g (h.vtable, h.value)).planned h.value)) plan
      l.seats.hooks.items l.seats.gone.items (trace_in (g.S.Scribe.trace l.scribe));
}

abbrev pub decreases-loop-made : goal.decreases-loop-made
decreases-loop-made g l = l.most - l.made
