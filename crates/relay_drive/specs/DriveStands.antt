-- Which traces a drive stands for, and what a turn does to them.
use Rattle.std.specs.Prelude.{◌≡◌, Bool, ◌++◌, length, Option}
use Rattle.ev_types.specs.AskNumbers.{AsksFit}
use Rattle.ev_types.specs.Trace.{Trace}
use Rattle.ev_types.specs.Growth.{Grew}
use Rattle.ev_port.specs.Faults.{Faults}
use Rattle.ev_port.specs.Counting.{counted}
use Rattle.relay_model.specs.Stages.{Stage}
use Rattle.relay_model.specs.Answers.{TurnAnswer}
use Rattle.relay_model.specs.Settings.{Settings}
use Rattle.relay_state.specs.State.{State}
use Rattle.relay_steps.specs.Meaning.{StandsFor}
use Rattle.relay_drive.specs.declared.fault.DriveFault.{DriveFault}
use Rattle.relay_drive.specs.declared.fault.DriveFault.TheVariants as fault
use Rattle.relay_drive.specs.declared.fault.TurnEnd.{TurnEnd}
use Rattle.relay_drive.specs.declared.fault.TurnEnd.TheVariants as end
use Rattle.relay_drive.specs.DriveValue.{DriveValue}
use Rattle.relay_drive.specs.Known.{IsInStep, Question}
use Rattle.relay_drive.specs.Advances.{Heard}

-- A drive stands for a trace that fits its relay, with the entries counted up to the end of a u64; the numbers of what was asked in it fit
-- their types.
pub record DriveStands (t : Trace) (d : DriveValue) : Type 0 where
  pub fits : IsInStep t d.state
  pub asks : AsksFit t
  pub entries : counted d.entries 0 ≡ counted 0 (length t)

-- what a turn answers, as the model names it
abbrev pub turn_answer_of : DriveFault → TurnAnswer
turn_answer_of fault.Memory = TurnAnswer.Memory
turn_answer_of fault.PollFault = TurnAnswer.PollFault
turn_answer_of fault.OpenFault = TurnAnswer.OpenFault
turn_answer_of fault.Spent = TurnAnswer.Spent

-- and how it ends that was not refused
abbrev pub turn_end_of : TurnEnd → TurnAnswer
turn_end_of end.Went = TurnAnswer.Went
turn_end_of (end.Stopped link) = TurnAnswer.Stopped link

-- the relay stands for a trace between two turns
abbrev pub StandsBetween : Trace → State → Type 0
StandsBetween t s = StandsFor t Stage.Between s

-- A turn does this with the relay, by entries that stand behind the trace of the scribe, and leaves the settings. For every
-- trace for which the drive stood, it stands for that trace with these entries, and what was known of the port and the one is
-- known of the port now and the other. For every trace for which the relay stood in the model, `After` holds of that trace with
-- these entries. What hooks tell is what those entries say.
pub record DriveWent {Plan : Type 0} (R : State → Trace → State → Type 0) (After : Trace → State → Type 0) (Tells : Trace → Type 0)
    (open_failed : Bool)
    (old new : DriveValue) (log log' : Option Trace) (known known' : Settings → Question Plan → Trace → Type 0)
    (faults faults' : Faults) : Type 0 where
  pub added : Trace
  pub does : R old.state added new.state
  pub means : (t : Trace) → StandsBetween t old.state → After (t ++ added) new.state
  pub list : Grew log log' added
  pub settings : new.state.settings ≡ old.state.settings
  pub stands : (t : Trace) → DriveStands t old → DriveStands (t ++ added) new
  pub told : (x : Question Plan) (t : Trace) → DriveStands t old → known old.state.settings x t → known' new.state.settings x (t ++ added)
  pub heard : Heard faults faults' added open_failed
  pub hooked : Tells added
