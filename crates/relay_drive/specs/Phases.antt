-- A turn as a relation of the relay's state: its phases in their order, and where it can be cut off.
use Rattle.std.specs.Prelude.{◌⊎◌, ℕ, Bool, true, false, List}
use Rattle.ev_types.specs.Trace.{Trace}
use Rattle.ev_port.specs.declared.port.Want.{Want}
use Rattle.relay_state.specs.State.{State}
use Rattle.relay_drive.specs.declared.fault.DriveFault.{DriveFault}
use Rattle.relay_drive.specs.declared.fault.DriveFault.TheVariants as fault
use Rattle.relay_drive.specs.declared.fault.TurnEnd.{TurnEnd}
use Rattle.relay_drive.specs.declared.fault.TurnEnd.TheVariants as end
use Rattle.relay_drive.specs.Steps.{Nothing, Then, Each, CutAt}
use Rattle.relay_drive.specs.Calls.{Ticks}
pub use Rattle.relay_drive.specs.Steps.{links_from}
pub use Rattle.relay_drive.specs.PollPhase.{want_of, wants_some, wants_of, wants_of_link, wants_of_links, wanted, can_open, Polls}
pub use Rattle.relay_drive.specs.PollPhase.{PollFails, CutPoll, OpensOne, OpensWhere, OpensSome, AcceptsLinks, AcceptsMore, AcceptsWhere}
pub use Rattle.relay_drive.specs.PollPhase.{PollsAndAccepts, CutAccepting, CutPolling}
pub use Rattle.relay_drive.specs.ServePhase.{ReadsWithRoom, ReadsSide, WritesSide, ConnectsSide, ServesSide, CutServing, AllOpened}
pub use Rattle.relay_drive.specs.DispatchPhase.{DispatchesAll, FiresShort, CutFire, CutDispatch}
pub use Rattle.relay_state.specs.Asking.{Dispatches, StopsAt}
pub use Rattle.relay_drive.specs.PassPhase.{PassesSide, CutPassing, PassesLink, CutPassingLink, ForAllLinks, CutForAllLinks}
pub use Rattle.relay_drive.specs.ClosePhase.{told_events, told_step, Closes, LooksAt, ClosesLink, CutClosingLink}
pub use Rattle.relay_core.specs.Steps.{closing_events}

abbrev pub is_open_fault : DriveFault → Bool
is_open_fault fault.OpenFault = true
is_open_fault _ = false

abbrev pub TicksOnce : State → Trace → State → Type 0
TicksOnce s a new = (reading : ℕ) × Ticks reading s a new

-- the clock, the poll with accepting, and serving with some marks, and then something else
abbrev pub ServedThen : (State → Trace → State → Type 0) → State → Trace → State → Type 0
ServedThen R s a new = (reading : ℕ) × (marked : List Want) ×
    Then (Ticks reading) (Then (PollsAndAccepts marked) (Then (Each ServesSide marked) R)) s a new

-- what dispatch does that is not refused, by how the turn goes on
abbrev pub EndsDispatch : TurnEnd → State → Trace → State → Type 0
EndsDispatch end.Went s a new = DispatchesAll s a new
EndsDispatch (end.Stopped link) s a new = StopsAt link s a new

-- passing and closing
abbrev pub PassesAndCloses : State → Trace → State → Type 0
PassesAndCloses = Then (ForAllLinks PassesLink) (ForAllLinks ClosesLink)

-- one of them was cut off
abbrev pub CutFinish : State → Trace → State → Type 0
CutFinish s a new = CutForAllLinks PassesLink CutPassingLink s a new
    ⊎ Then (ForAllLinks PassesLink) (CutForAllLinks ClosesLink CutClosingLink) s a new

-- a turn goes through its phases with some marks
abbrev pub Turns : State → Trace → State → Type 0
Turns s a new = ServedThen (Then DispatchesAll PassesAndCloses) s a new

-- a turn is ended by a hook of this link
abbrev pub StopsTurn : ℕ → State → Trace → State → Type 0
StopsTurn link s a new = ServedThen (StopsAt link) s a new

-- what a turn does that is not refused, by how it ends
abbrev pub EndsTurn : TurnEnd → State → Trace → State → Type 0
EndsTurn end.Went s a new = Turns s a new
EndsTurn (end.Stopped link) s a new = StopsTurn link s a new

-- a turn is cut off in front of dispatch
pub data CutStart : DriveFault → State → Trace → State → Type 0 where
  begin_before : {s new : State} {a : Trace} → Nothing s a new → CutStart fault.Memory s a new
  begin_in_poll : {f : DriveFault} {s new : State} {a : Trace} (reading : ℕ) → Then (Ticks reading) (CutPolling f) s a new →
      CutStart f s a new
  begin_in_serving : {s new : State} {a : Trace} (reading : ℕ) (marked : List Want) →
      Then (Ticks reading) (Then (PollsAndAccepts marked) (CutAt ServesSide CutServing marked)) s a new → CutStart fault.Memory s a new

-- a turn is cut off behind its phases, in the poll or behind it
pub data CutTurn : DriveFault → State → Trace → State → Type 0 where
  before : {s new : State} {a : Trace} → Nothing s a new → CutTurn fault.Memory s a new
  in_poll : {f : DriveFault} {s new : State} {a : Trace} (reading : ℕ) → Then (Ticks reading) (CutPolling f) s a new → CutTurn f s a new
  in_serving : {s new : State} {a : Trace} (reading : ℕ) (marked : List Want) →
      Then (Ticks reading) (Then (PollsAndAccepts marked) (CutAt ServesSide CutServing marked)) s a new → CutTurn fault.Memory s a new
  in_dispatch : {s new : State} {a : Trace} → ServedThen CutDispatch s a new → CutTurn fault.Memory s a new
  in_passing : {s new : State} {a : Trace} → ServedThen (Then DispatchesAll (CutForAllLinks PassesLink CutPassingLink)) s a new →
      CutTurn fault.Memory s a new
  in_closing : {s new : State} {a : Trace} →
      ServedThen (Then DispatchesAll (Then (ForAllLinks PassesLink) (CutForAllLinks ClosesLink CutClosingLink))) s a new →
      CutTurn fault.Memory s a new
