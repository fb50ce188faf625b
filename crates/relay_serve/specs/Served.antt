-- What `serve` says of the run that it made over a port.
use Rattle.std.specs.Prelude.{◌≡◌, ◌≢◌, ◌⊎◌, ℕ, ◌<◌, ◌-◌, ◌^◌, min, ⊤, Bool, true, false, List, [], length, take, All, Option, Some, None}
use Rattle.std.specs.Prelude.{count_by}
use Rattle.ev_types.specs.declared.plan_line.PlanLine.{PlanLine}
use Rattle.ev_types.specs.declared.side.SideId.{SideId}
use Rattle.ev_types.specs.declared.status.LinkCount.{LinkCount}
use Rattle.ev_types.specs.declared.status.LinkState.TheVariants as state
use Rattle.ev_types.specs.declared.status.Status.{Status}
use Rattle.ev_types.specs.declared.status.Status.TheVariants as status
use Rattle.ev_types.specs.Growth.{Grew}
use Rattle.ev_types.specs.Told.{EndTold, PortTold}
use Rattle.ev_types.specs.Trace.{Trace}
use Rattle.ev_port.specs.FaultCounts.{Rose}
use Rattle.ev_port.specs.StreamBytes.{TookOn}
use Rattle.ev_port.specs.Calls.{StartedAt}
use Rattle.ev_port.specs.EndSteps.{AllWent, no_step}
use Rattle.script_text.specs.ReportText.{report_text}
use Rattle.relay_model.specs.Answers.{TurnAnswer}
use Rattle.relay_model.specs.Hooked.{AskPlanned, AskedAsPlanned}
use Rattle.relay_model.specs.RatesKept.{is_turn}
use Rattle.relay_model.specs.Settings.{Settings, settings_with}
use Rattle.relay_model.specs.Tied.{IsTied}
use Rattle.relay_model.specs.Totals.{opened}
use Rattle.ev_types.specs.declared.route.Route.{Route}
use Rattle.relay_laws.specs.Links.{link_state_in}
use Rattle.relay_laws.specs.Relayed.{IsRelayed}
use Rattle.relay_laws.specs.TurnEnds.{AtTurnEnds}
use Rattle.relay_drive.specs.Advances.{Heard}
use Rattle.relay_drive.specs.DriveStands.{DriveStands, StandsBetween}
use Rattle.relay_drive.specs.DriveValue.{DriveValue, is_worn}
use Rattle.relay_drive.specs.Known.{IsClosedSince}
use Rattle.relay_drive.specs.Seats.{Telling}
use Rattle.program_end.specs.Planned.{HavePlans}
use Rattle.relay_serve.specs.Seen.{Seen, Drained}

-- the settings of a run with hooks for these sides, as the model has them
abbrev pub settings_on : Route → List SideId → Settings
settings_on route hooks = settings_with route.settings hooks

-- the port was started once, with these addresses, and told this from then on
pub record BeganSo (route : Route) (old : Seen) (told : PortTold) (ends : SideId → EndTold) : Type 0 where
  pub told_of_start : StartedAt old.told told route.listen route.to
  pub ends_stay : AllWent old.ends ends (λ _. no_step)

-- behind a trace a link was still to be opened, or was open
abbrev pub HasWork : ℕ → Trace → Type 0
HasWork links t = (opened t < links) ⊎ ((link : ℕ) × (link < opened t) × (link_state_in t link ≡ state.Live))

-- Behind turns of which none was cut off, accepting stands closed as the last of them left it: where the port tells of that, it stands
-- open only if that turn opened as many links as a turn may open, or as many were opened as may be in all.
abbrev pub LeavesClosed : TurnAnswer → Settings → PortTold → PortTold → Trace → Type 0
LeavesClosed TurnAnswer.Went g began now t = t ≢ [] → IsClosedSince g began now t
LeavesClosed (TurnAnswer.Stopped link) g began now t = IsClosedSince g began now t
LeavesClosed _ g began now t = ⊤

-- The run made this trace, which stands behind what the scribe had; a relay with these settings and hooks made it, and ended with this
-- answer. Each of its turns began while a link was still to be opened or was open. The port was started with the addresses, and is tied
-- to the trace since then: it was not started again. The counts of its faults rose exactly where the trace tells of a fault, and that of
-- its listener where this says so.
pub record IsServed (route : Route) (hooks : List SideId) (answer : TurnAnswer) (open_failed : Bool) (old new : Seen) (t : Trace)
    (links : List LinkCount) : Type 0 where
  pub list : Grew old.log new.log t
  pub relayed : IsRelayed (settings_on route hooks) answer t links
  pub work : AtTurnEnds (HasWork route.settings.links) t
  pub began : PortTold
  pub ends_began : SideId → EndTold
  pub start : BeganSo route old began ends_began
  pub tied : IsTied (settings_on route hooks) began new.told ends_began new.ends t
  pub closed : LeavesClosed answer (settings_on route hooks) began new.told t
  pub heard : Heard old.faults new.faults t open_failed

-- so many links were opened as were asked for, and none is open
pub record IsAllServed (route : Route) (t : Trace) (links : List LinkCount) : Type 0 where
  pub all_opened : opened t ≡ route.settings.links
  pub none_open : All (λ link. link.state ≢ state.Live) links

-- what was counted in a trace is too much for one more turn
abbrev pub IsWornOut : Trace → Type 0
IsWornOut t = (d : DriveValue) × DriveStands t d × StandsBetween t d.state × (is_worn d ≡ true)

-- how many turns a status tells of
abbrev pub turns_told : Trace → ℕ
turns_told t = min (count_by is_turn t) (2 ^ 32 - 1)

-- How a run ended, by the status with which the program ends once the report is written. The listener failed at the start or in the
-- last turn. A hook of this link stopped the last turn, and so many turns were made with it, cut at the end of a u32; where there are no
-- hooks, no run ends so.
abbrev pub EndedAs : Route → List SideId → Status → Seen → Seen → Trace → List LinkCount → Type 0
EndedAs route hooks status.Ok old new t links = IsServed route hooks TurnAnswer.Went false old new t links × IsAllServed route t links
EndedAs route hooks status.PollFault old new t links =
    IsServed route hooks TurnAnswer.PollFault false old new t links × Rose old.faults.polling new.faults.polling
EndedAs route hooks status.OpenFault old new t links =
    (IsServed route hooks TurnAnswer.OpenFault true old new t links
    ⊎ ((t ≡ []) × IsServed route hooks TurnAnswer.Went true old new t links))
    × Rose old.faults.listener new.faults.listener
EndedAs route hooks status.Spent old new t links = IsServed route hooks TurnAnswer.Went false old new t links × IsWornOut t
EndedAs route hooks (status.Stopped link turn) old new t links =
    IsServed route hooks (TurnAnswer.Stopped link) false old new t links × (turn ≡ turns_told t) × (hooks ≢ [])
EndedAs route hooks _ old new t links = ⊥

-- the run ended so, and the whole report was written
abbrev pub ReportedAll : Route → List SideId → Status → Seen → Seen → Drained → Drained → Type 0
ReportedAll route hooks ended old new before after =
    (t : Trace) × (links : List LinkCount) × EndedAs route hooks ended old new t links × TookOn before.taken after.taken (report_text links)

-- the run ended somehow, and the first n bytes of the report were written, and not all
abbrev pub ReportedPart : Route → List SideId → Seen → Seen → Drained → Drained → Type 0
ReportedPart route hooks old new before after =
    (t : Trace) × (links : List LinkCount) × (ended : Status) × (n : ℕ) × EndedAs route hooks ended old new t links
    × (n < length (report_text links)) × TookOn before.taken after.taken (take n (report_text links))

-- Memory ran out in the run, or behind it while the report was made; or before there was one.
abbrev pub RanOut : Route → List SideId → Seen → Seen → Type 0
RanOut route hooks old new =
    ((t : Trace) × (links : List LinkCount) × IsServed route hooks TurnAnswer.Memory false old new t links)
    ⊎ ((t : Trace) × (links : List LinkCount) × (ended : Status) × EndedAs route hooks ended old new t links)
    ⊎ (new ≡ old)

-- What a call did, by its status. The other statuses never come.
abbrev pub Did : Route → List SideId → Status → Seen → Seen → Drained → Drained → Type 0
Did route hooks status.WriteFault old new before after = ReportedPart route hooks old new before after × Rose before.faults after.faults
Did route hooks status.Memory old new before after = RanOut route hooks old new
Did route hooks status.Usage old new before after = ⊥
Did route hooks (status.BadScript line) old new before after = ⊥
Did route hooks status.ReadFault old new before after = ⊥
Did route hooks status.TooLong old new before after = ⊥
Did route hooks ended old new before after = ReportedAll route hooks ended old new before after

-- Words that are not in the grammar do nothing, and what a call did with the others, and hooks for these sides.
abbrev pub DidWith : Option Route → List SideId → Status → Seen → Seen → Drained → Drained → Type 0
DidWith None hooks ended old new before after = ((ended ≡ status.Usage) ⊎ (ended ≡ status.Memory)) × (new ≡ old) × (after ≡ before)
DidWith (Some route) hooks ended old new before after = Did route hooks ended old new before after

-- The scribe was given these entries. By them each hook that told a plan, and was called for nothing before, asked what the plan has for
-- what the hook heard; but where memory ran out, a last fire may have been cut off in which its hook asked anything.
abbrev pub AskedByPlans : {H : Type 0} → Telling H → Status → List (Option H) → Option Trace → Option Trace → Type 0
AskedByPlans tells ended hooks old new =
    (t : Trace) × Grew old new t × ((plan : SideId → List PlanLine) → HavePlans tells plan hooks →
    AskPlanned plan TurnAnswer.Memory t × (ended ≢ status.Memory → AskedAsPlanned plan t))
