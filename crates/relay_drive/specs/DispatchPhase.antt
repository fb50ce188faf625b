-- Dispatch as relations of the relay's state: all that is due is fired, or a hook stops the run; and where it can be cut off.
use Rattle.std.specs.Prelude.{◌≡◌, ◌≤◌, ℕ, ◌++◌, Bool, List, length}
use Rattle.ev_types.specs.Trace.{Trace}
use Rattle.relay_state.specs.State.{State}
use Rattle.relay_model.specs.Due.{Reason}
use Rattle.relay_state.specs.Asking.{dispatching, left_to_fire, Fires, FiresSome, Dispatches}
use Rattle.relay_drive.specs.Steps.{Nothing}

-- All that is due is fired. No more is due than there are sides with a hook, as no side has two entries.
pub record DispatchesAll (s : State) (a : Trace) (new : State) : Type 0 where
  pub does : Dispatches s a new
  pub few : length s.plain.due ≤ length s.settings.hooks

-- The first reason of the batch was fired, and memory was wanting for its hook: what it asked until then stands in the trace.
pub record FiresShort (s : State) (a : Trace) (new : State) : Type 0 where
  pub stopped : Bool
  pub fires : Fires stopped s a new

-- Dispatch is cut off between two fires, the next reason being taken out or not, or by a hook for which memory was wanting.
pub data CutFire (s : State) (a : Trace) (new : State) : Type 0 where
  no_room : (rs : List Reason) → Nothing (left_to_fire rs s) a new → CutFire s a new
  in_fire : FiresShort s a new → CutFire s a new

-- some reasons were fired, and then it was cut off
pub record CutDispatch (s : State) (a : Trace) (new : State) : Type 0 where
  pub many : ℕ
  pub middle : State
  pub front : Trace
  pub back : Trace
  pub fires : FiresSome many (dispatching s) front middle
  pub last : CutFire middle back new
  pub joined : a ≡ front ++ back
