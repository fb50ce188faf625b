-- What is known of a port and of the trace that a drive stands for, as a turn goes on.
use Rattle.std.specs.Prelude.{◌≡◌, ⊤, Bool, if◌then◌else◌, [], Some, IsSome, unwrap_or}
use Rattle.std.specs.List.{last_or}
use Rattle.ev_types.specs.declared.side.SideId.{SideId}
use Rattle.ev_types.specs.Trace.{Trace}
use Rattle.relay_model.specs.Totals.{opened, opened_in_turn, times}
use Rattle.ev_types.specs.Told.{EndTold, PortTold}
use Rattle.relay_model.specs.Tied.{IsTied, ClosedAfterTurn}
use Rattle.relay_model.specs.Plays.{AllTaken, AlwaysAllTaken}
use Rattle.ev_types.specs.Times.{greatest_time}
use Rattle.relay_model.specs.Settings.{Settings}
use Rattle.relay_state.specs.State.{State}

-- The relay's time is that of the trace's last turn, which is also the greatest, and as many links are opened as the trace
-- opens.
pub record IsInStep (t : Trace) (s : State) : Type 0 where
  pub time : greatest_time t ≡ s.plain.time
  pub last : unwrap_or (last_or (Some 0) (times t)) 0 ≡ s.plain.time
  pub opened : opened t ≡ s.plain.opened

-- a port that told so of itself and of its ends as a run began, and tells so now, is tied to the trace of the run
abbrev pub IsTiedSince : Settings → PortTold → PortTold → (SideId → EndTold) → (SideId → EndTold) → Trace → Type 0
IsTiedSince g began told ends_began ends t = IsTied g began told ends_began ends t

-- behind all that this port told of accepting as the run began, it stands open only where a turn may not open more
abbrev pub IsClosedSince : Settings → PortTold → PortTold → Trace → Type 0
IsClosedSince g began told t = IsSome began.accepting → ClosedAfterTurn g told t

-- Questions on a port that answers by plans of this kind, and on a trace, each asked by itself
pub data Question (Plan : Type 0) : Type 0 where
  Vouched : Plan → Question Plan  -- does the port vouch for the trace by this plan
  Took : Plan → Question Plan  -- and was every link that waited accepted
  Tied : PortTold → (SideId → EndTold) → Question Plan  -- is the port tied to the trace since it told this

-- how far a turn has come with accepting
pub data Point : Type 0 where
  Between : Point  -- no turn runs
  Begun : Point  -- a turn began, and opened no link yet
  Accepting : Point  -- more links may be opened in this turn
  Accepted : Point  -- none is opened in this turn any more

-- where links are ready a turn accepts none yet, and else no more
abbrev pub begun_if : Bool → Point
begun_if ready = if ready then Point.Begun else Point.Accepted

-- where a link was opened more may be, and else none is any more
abbrev pub accepting_if : Bool → Point
accepting_if more = if more then Point.Accepting else Point.Accepted

-- A question is answered with yes. What is known of links that waited is only that all were accepted wherever accepting has
-- ended.
abbrev pub IsYes : {Plan : Type 0} → (Plan → Trace → Type 0) → (Plan → Trace → Type 0) → PortTold → (SideId → EndTold) → Settings →
    Question Plan → Trace → Type 0
IsYes vouches none_waits told ends g (Question.Vouched plan) t = vouches plan t
IsYes vouches none_waits told ends g (Question.Took plan) t = vouches plan t × AlwaysAllTaken (none_waits plan) g.links [] t
IsYes vouches none_waits told ends g (Question.Tied began ends_began) t = IsTiedSince g began told ends_began ends t

-- all that wait now are accepted
abbrev pub TookNow : {Plan : Type 0} → (Plan → Trace → Type 0) → Settings → Question Plan → Trace → Type 0
TookNow none_waits g (Question.Took plan) t = AllTaken (none_waits plan) g.links t
TookNow none_waits g _ t = ⊤

-- accepting is closed now
abbrev pub ClosedNow : {Plan : Type 0} → PortTold → Settings → Question Plan → Trace → Type 0
ClosedNow told g (Question.Tied began ends_began) t = IsClosedSince g began told t
ClosedNow told g _ t = ⊤

-- What is known besides: between turns, and once accepting has ended, that all links that wait are accepted; then also that
-- accepting is closed; and as a turn begins that it opened no link.
abbrev pub HasCome : {Plan : Type 0} → Point → (Plan → Trace → Type 0) → PortTold → Settings → Question Plan → Trace → Type 0
HasCome Point.Between none_waits told g x t = TookNow none_waits g x t
HasCome Point.Begun none_waits told g x t = opened_in_turn t ≡ 0
HasCome Point.Accepting none_waits told g x t = ⊤
HasCome Point.Accepted none_waits told g x t = TookNow none_waits g x t × ClosedNow told g x t

-- what is known of a port that vouches for traces and tells so
abbrev pub known : {Plan : Type 0} → Point → (Plan → Trace → Type 0) → (Plan → Trace → Type 0) → PortTold → (SideId → EndTold) →
    Settings → Question Plan → Trace → Type 0
known p vouches none_waits told ends g x t = IsYes vouches none_waits told ends g x t × HasCome p none_waits told g x t
