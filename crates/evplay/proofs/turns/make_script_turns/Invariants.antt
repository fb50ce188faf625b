use Rattle.std.proofs.Common.{◌≡◌, ℕ, List, Some}
use Rattle.ev_types.specs.declared.plan_line.PlanLine.{PlanLine}
use Rattle.ev_types.specs.declared.side.SideId.{SideId}
use Rattle.relay_drive.specs.Seats.{telling, AreSeated}
use Rattle.program_end.specs.Planned.{HavePlans, AllToldOf}
use Rattle.script_port.specs.ScriptPlan.{first_plan}
use Rattle.evplay.specs.CameTo.{StandsAfter}
use Rattle.evplay.proofs.TurnLemmas.{trace_in}
use Rattle.evplay.proofs.turns.make_script_turns.Given as goal

-- The scribe tells a trace for which the run stands between two turns. Hooks that had plans have told what the trace says.
abbrev pub invariant-loop-turn : goal.invariant-loop-turn
invariant-loop-turn g l = record {
  tells : g.S.Scribe.trace l.scribe ≡ Some (trace_in (g.S.Scribe.trace l.scribe));
  stands : (step : ℕ) → StandsAfter l.fn.drive.state.settings l.turn (first_plan l.fn.port.turns step) l.drive l.port
      (trace_in (g.S.Scribe.trace l.scribe));
  seated : AreSeated l.drive.state l.seats.hooks.items l.seats.gone.items;
  told : (plan : SideId → List PlanLine) →
      HavePlans (telling (λ h. (goal.Hook-dyn g (h.vtable, h.value)).heard h.value)
      (λ h. (goal.Hook-dyn g (h.vtable, h.value)).asked h.value) (λ h. (goal.Hook-dyn g (h.vtable, h.value)).planned h.value)) plan
      l.fn.seats.hooks.items →
      AllToldOf (telling (λ h. (goal.Hook-dyn g (h.vtable, h.value)).heard h.value)
      (λ h. (goal.Hook-dyn g (h.vtable, h.value)).asked h.value) (λ h. (goal.Hook-dyn g (h.vtable, h.value)).planned h.value)) plan
      l.seats.hooks.items l.seats.gone.items (trace_in (g.S.Scribe.trace l.scribe));
}
