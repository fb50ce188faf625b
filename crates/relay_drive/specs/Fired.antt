-- Firing, with the entries of it that stand behind the trace of a scribe.
use Rattle.std.specs.Prelude.{◌≡◌, ℕ, [], ◌∷◌, List, length, Option, MatchOption, ⊤}
use Rattle.ev_types.specs.declared.entry.Entry.TheVariants as entry
use Rattle.ev_types.specs.declared.side.SideId.{SideId}
use Rattle.ev_types.specs.declared.why.Why.{Why}
use Rattle.ev_types.specs.Trace.{Trace}
use Rattle.ev_types.specs.Growth.{Grew}
use Rattle.ev_port.specs.Counting.{counted}
use Rattle.relay_state.specs.State.{State}
use Rattle.relay_state.specs.Asking.{dispatching, FiresSome}
use Rattle.relay_core.specs.Fires.{FiresSide}
use Rattle.relay_drive.specs.declared.run.Run.{Run}
use Rattle.relay_drive.specs.Seats.{Telling, HooksTell, EndsInFire}

-- A reason was fired at a side: that and what the hook asked stands behind the trace, and is counted.
pub record HasFired (e : SideId) (y : Why) (old new : Run) (log log' : Option Trace) : Type 0 where
  pub step : FiresSide e old.relay new.relay
  pub list : Grew log log' ((entry.Fired e y, []) ∷ new.relay.log)
  pub entries : counted new.entries 0 ≡ counted old.entries (length ((entry.Fired e y, []) ∷ new.relay.log))

-- The relay does this; the entries of that stand behind the trace, and are counted; and hooks tell what these say, but for one that wanted
-- memory, if there is one.
pub record FiredAs {H : Type 0} (tells : Telling H) (short : Option SideId) (R : State → Trace → State → Type 0) (old new : Run)
    (log log' : Option Trace) (hooks gone hooks' gone' : List (Option H)) : Type 0 where
  pub added : Trace
  pub does : R old.relay.state added new.relay.state
  pub list : Grew log log' added
  pub entries : counted new.entries 0 ≡ counted old.entries (length added)
  pub hooked : HooksTell tells short hooks gone hooks' gone' added

-- some of what was due was fired
abbrev pub FiresAny : State → Trace → State → Type 0
FiresAny s a new = (n : ℕ) × FiresSome n (dispatching s) a new

-- what was cut off, for want of memory of some hook, in whose fire it was, or of none
abbrev pub FiredBut : {H : Type 0} → Telling H → (State → Trace → State → Type 0) → Run → Run → Option Trace → Option Trace →
    List (Option H) →
    List (Option H) → List (Option H) → List (Option H) → Type 0
FiredBut tells R old new log log' hooks gone hooks' gone' =
    (short : Option SideId) × (fired : FiredAs tells short R old new log log' hooks gone hooks' gone')
    × MatchOption short ⊤ (λ e. EndsInFire tells e hooks gone fired.added)
