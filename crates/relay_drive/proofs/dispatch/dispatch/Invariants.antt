use Rattle.std.proofs.Common.{None, length}
use Rattle.ev_types.specs.Trace.{Trace}
use Rattle.relay_model.specs.Stages.{Stage}
use Rattle.relay_steps.specs.Meaning.{StandsFor}
use Rattle.relay_drive.specs.Agenda.{IsKept, KeepsNames}
use Rattle.relay_drive.specs.Fired.{FiredAs, FiresAny}
use Rattle.relay_drive.specs.Seats.{telling, AreSeated}
use Rattle.relay_drive.proofs.dispatch.dispatch.Given as goal

abbrev pub invariant-loop-side : goal.invariant-loop-side
invariant-loop-side g l = record {
  fired : FiredAs (telling (λ h. (goal.Hook-dyn g (h.vtable, h.value)).heard h.value)
      (λ h. (goal.Hook-dyn g (h.vtable, h.value)).asked h.value)
      (λ h. (goal.Hook-dyn g (h.vtable, h.value)).planned h.value)) None
      FiresAny l.fn.run l.run (g.S.Scribe.trace l.fn.scribe) (g.S.Scribe.trace l.scribe) l.fn.seats.hooks.items l.fn.seats.gone.items
      l.seats.hooks.items l.seats.gone.items;
  stood : (t : Trace) × StandsFor t (Stage.Dispatching l.run.relay.state.batch) l.run.relay.state;
  kept : IsKept l.agenda l.run.relay.state;
  names : KeepsNames l.fn.agenda l.fn.run.relay.state l.agenda l.run.relay.state;
  seated : AreSeated l.run.relay.state l.seats.hooks.items l.seats.gone.items;
}

abbrev pub decreases-loop-side : goal.decreases-loop-side
decreases-loop-side g l = length l.run.relay.state.batch
