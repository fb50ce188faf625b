-- What a call of the drive does outside of the relay too: the entries that it puts, what is known of the port, and which
-- faults are counted.
use Rattle.std.specs.Prelude.{◌≡◌, Bool, true, false, ◌++◌, length, Option}
use Rattle.std.specs.List.{list_any}
use Rattle.ev_port.specs.FaultCounts.{Counted}
use Rattle.ev_types.specs.declared.side.SideId.{SideId}
use Rattle.ev_types.specs.declared.entry.Entry.TheVariants as entry
use Rattle.ev_types.specs.Trace.{Event, Trace}
use Rattle.ev_types.specs.Growth.{Grew}
use Rattle.relay_model.specs.Told.{has_failed}
use Rattle.ev_port.specs.Faults.{Faults}
use Rattle.ev_port.specs.Counting.{counted}
use Rattle.relay_model.specs.Settings.{Settings}
use Rattle.relay_state.specs.State.{State}
use Rattle.relay_drive.specs.declared.run.Run.{Run}
use Rattle.relay_drive.specs.Known.{IsInStep, Question}

-- a failed poll
abbrev pub is_poll_failed : Event → Bool
is_poll_failed (entry.PollFailed, bytes) = true
is_poll_failed _ = false

abbrev pub has_poll_failed : Trace → Bool
has_poll_failed t = list_any is_poll_failed t

-- An end's count, and that of polling, rose exactly where an entry tells of such a fault; that of the listener where the
-- call is answered so.
pub record Heard (old new : Faults) (added : Trace) (open_failed : Bool) : Type 0 where
  pub ends : (e : SideId) → Counted (old.ends e) (new.ends e) (has_failed e added)
  pub polling : Counted old.polling new.polling (has_poll_failed added)
  pub listener : Counted old.listener new.listener open_failed

-- The relay does this; the entries of that are counted and stand behind the trace of the scribe, and the settings stay. For
-- every trace that fits the relay, the trace with these entries does; what was known of the one is known of the other.
pub record Advances {Plan : Type 0} (R : State → Trace → State → Type 0) (open_failed : Bool) (old new : Run) (log log' : Option Trace)
    (known known' : Settings → Question Plan → Trace → Type 0) (faults faults' : Faults) : Type 0 where
  pub added : Trace
  pub does : R old.relay.state added new.relay.state
  pub entries : counted new.entries 0 ≡ counted old.entries (length added)
  pub list : Grew log log' added
  pub settings : new.relay.state.settings ≡ old.relay.state.settings
  pub told : (t : Trace) → IsInStep t old.relay.state → IsInStep (t ++ added) new.relay.state ×
      ((x : Question Plan) → known old.relay.state.settings x t → known' new.relay.state.settings x (t ++ added))
  pub heard : Heard faults faults' added open_failed
