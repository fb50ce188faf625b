-- What a run over a port has done, as far as it came.
use Rattle.std.specs.Prelude.{◌≡◌, ◌≢◌, ◌==◌, ◌&&◌, not, nat_lt, ℕ, Bool, false, length, ◌<◌, List, take}
use Rattle.std.specs.Prelude.{Result, Ok, Err, None, MatchResult}
use Rattle.ev_types.specs.declared.side.SideId.{SideId}
use Rattle.ev_types.specs.declared.status.Status.{Status}
use Rattle.ev_types.specs.declared.status.Status.TheVariants as status
use Rattle.ev_types.specs.Growth.{Grew}
use Rattle.ev_types.specs.Trace.{Trace}
use Rattle.ev_port.specs.EndSteps.{AllWent, PortStays, no_step}
use Rattle.ev_port.specs.FaultCounts.{Rose}
use Rattle.ev_port.specs.Faults.{FaultsStay}
use Rattle.ev_port.specs.StreamBytes.{TookOn}
use Rattle.ev_port.specs.declared.port.Port as port
use Rattle.ev_port.specs.declared.scribe.Scribe as scribe
use Rattle.relay_model.specs.Answers.{TurnAnswer}
use Rattle.relay_model.specs.Settings.{Settings, settings_with}
use Rattle.relay_model.specs.Tied.{IsTied}
use Rattle.ev_types.specs.declared.route.Route.{Route}
use Rattle.ev_types.specs.declared.settings.Settings as code
use Rattle.relay_state.specs.State.{State, new_state}
use Rattle.relay_state.specs.Counting.{open_below}
use Rattle.relay_steps.specs.Meaning.{LeftFor}
use Rattle.relay_laws.specs.Relayed.{StoodBetween}
use Rattle.relay_laws.specs.Report.{lines_below}
use Rattle.relay_laws.specs.TurnEnds.{AtTurnEnds}
use Rattle.relay_drive.specs.declared.fault.DriveFault.{DriveFault}
use Rattle.relay_drive.specs.declared.fault.DriveFault.TheVariants as fault
use Rattle.relay_drive.specs.Advances.{Heard}
use Rattle.relay_drive.specs.DriveStands.{turn_answer_of, StandsBetween}
use Rattle.relay_drive.specs.DriveValue.{DriveValue}
use Rattle.relay_drive.specs.Phases.{is_open_fault}
use Rattle.program_end.specs.EndStatus.{status_of}
use Rattle.relay_serve.specs.Seen.{Seen, Drained, seen}
use Rattle.relay_serve.specs.Served.{EndedAs, IsServed, IsWornOut, HasWork, LeavesClosed, turns_told}
use Rattle.relay_serve.specs.declared.run.ServeEnd.{ServeEnd}
use Rattle.relay_serve.specs.declared.run.ServeEnd.TheVariants as serve_end

-- a new drive without groups, and with hooks for these sides
abbrev pub groupless_drive : code.Settings → List SideId → DriveValue
groupless_drive g hooks = record { state = new_state (settings_with g hooks); entries = 0; kept = None }

-- Turns of a drive that was new put these entries, and the last was answered so. `After` holds of them and of the relay's state; wherever
-- a turn ended, the run stood for the trace up to there, and there was work for the next one. The port is tied to them since they began.
pub record TurnsWent (g : Settings) (answer : TurnAnswer) (After : Trace → State → Type 0) (open_failed : Bool) (old new : Seen)
    (s : State) : Type 0 where
  pub added : Trace
  pub list : Grew old.log new.log added
  pub settings : s.settings ≡ g
  pub after : After added s
  pub ends : AtTurnEnds (StoodBetween g) added
  pub work : AtTurnEnds (HasWork g.links) added
  pub tied : IsTied g old.told new.told old.ends new.ends added
  pub closed : LeavesClosed answer g old.told new.told added
  pub heard : Heard old.faults new.faults added open_failed

-- as many links were opened as this number, and none is open
abbrev pub is_served_out : State → ℕ → Bool
is_served_out s links = s.plain.opened == links && not (nat_lt 0 (open_below s s.plain.opened))

-- so many links were opened as may be, and none is open
pub record IsServedOut (s : State) : Type 0 where
  pub all_opened : s.plain.opened ≡ s.settings.links
  pub none_open : open_below s s.plain.opened ≡ 0

-- the run ended so: all was served, or a hook stopped the last turn
abbrev pub TurnsEnd : ServeEnd → Settings → Seen → Seen → State → Type 0
TurnsEnd serve_end.ServedOut g old new s = TurnsWent g TurnAnswer.Went StandsBetween false old new s × IsServedOut s
TurnsEnd (serve_end.Stopped link turn) g old new s =
    (went : TurnsWent g (TurnAnswer.Stopped link) (LeftFor (TurnAnswer.Stopped link)) false old new s) × (turn ≡ turns_told went.added)

-- the last turn was refused
abbrev pub TurnsCut : DriveFault → Settings → Seen → Seen → State → Type 0
TurnsCut fault.Spent g old new s = (went : TurnsWent g TurnAnswer.Went StandsBetween false old new s) × IsWornOut went.added
TurnsCut why g old new s = TurnsWent g (turn_answer_of why) (LeftFor (turn_answer_of why)) (is_open_fault why) old new s

-- What a port tells stays, and no fault is counted.
pub record PortRests {P : Type 0} (p : port.Ghosts P) (old new : P) : Type 0 where
  pub faults : FaultsStay (p.faults old) (p.faults new)
  pub ends : AllWent (p.ends old) (p.ends new) (λ _. no_step)
  pub told : PortStays (p.told old) (p.told new)

-- turns were made until all was served, or until one was stopped or refused
abbrev pub TurnsGo : {P S : Type 0} → port.Ghosts P → scribe.Ghosts S → Result ServeEnd DriveFault → DriveValue × P × S →
    DriveValue × P × S → Type 0
TurnsGo p h result old new =
    let g : Settings = old.0.state.settings in
    let before : Seen = seen p h (old.1, old.2) in
    let now : Seen = seen p h (new.1, new.2) in
    MatchResult result (λ end. TurnsEnd end g before now new.0.state) (λ why. TurnsCut why g before now new.0.state)

-- the status with which a program ends once its report is written
abbrev pub ended_as : Result ServeEnd DriveFault → Status
ended_as (Ok serve_end.ServedOut) = status.Ok
ended_as (Ok (serve_end.Stopped link turn)) = status.Stopped link turn
ended_as (Err why) = status_of why

-- A run came to this, with the lines of the relay's report.
abbrev pub RanTo : Route → List SideId → Status → Seen → Seen → State → Type 0
RanTo route hooks status.Memory old new s =
    (t : Trace) × IsServed route hooks TurnAnswer.Memory false old new t (lines_below s s.plain.opened)
RanTo route hooks ended old new s = (t : Trace) × EndedAs route hooks ended old new t (lines_below s s.plain.opened)

-- A report of a run that ended so was written whole, or in part, or not at all where memory ran out.
abbrev pub Reported : Status → Status → List ℕ → Drained → Drained → Type 0
Reported ended status.Memory text before after = after ≡ before
Reported ended status.WriteFault text before after =
    (ended ≢ status.Memory) × (n : ℕ) × (n < length text) × TookOn before.taken after.taken (take n text) × Rose before.faults after.faults
Reported ended result text before after = (result ≡ ended) × TookOn before.taken after.taken text × (after.faults ≡ before.faults)
