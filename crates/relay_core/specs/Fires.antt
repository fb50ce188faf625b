-- What a hook does in a fire: asks in a row, each answered and recorded.
use Rattle.std.specs.Prelude.{◌≡◌, ℕ, ◌+◌, ◌≤◌, ◌<◌, ⊤, ◌||◌, List, [], ◌∷◌, ◌++◌, length, map, Option, Some, None, option_map, Result}
use Rattle.std.specs.Prelude.{Ok, Err}
use Rattle.std.specs.List.{list_any}
use Rattle.ev_types.specs.declared.act.Act.{Act}
use Rattle.ev_types.specs.declared.act.Act.TheVariants as act
use Rattle.ev_types.specs.declared.why.Cause.TheVariants as cause
use Rattle.ev_types.specs.declared.answer.AskAnswer.{AskAnswer}
use Rattle.ev_types.specs.declared.answer.AskAnswer.TheVariants as ask
use Rattle.ev_types.specs.declared.entry.Entry.{Entry}
use Rattle.ev_types.specs.declared.plan_line.PlanLine.{PlanLine}
use Rattle.ev_types.specs.declared.side.SideId.{SideId}
use Rattle.ev_types.specs.declared.why.Why.{Why}
use Rattle.ev_types.specs.Trace.{Trace}
use Rattle.ev_types.specs.declared.entry.Entry.TheVariants as entry
use Rattle.relay_model.specs.Asks.{most_asks, refusal}
use Rattle.relay_model.specs.Plans.{IsPlanned}
use Rattle.relay_state.specs.Asking.{AsksOne, AsksAll, ask_events, stops}
use Rattle.relay_core.specs.Named.{HasRoomForReference, NamesLinkBelow, NamesLive}
use Rattle.relay_core.specs.RelayValue.{RelayValue}
use Rattle.relay_core.specs.declared.fault.AskFault.{AskFault}
use Rattle.relay_core.specs.declared.fault.AskFault.TheVariants as fault

-- entries with no bytes
abbrev pub events_of : List Entry → Trace
events_of entries = map (λ x. (x, [])) entries

-- what is recorded of an ask with this result: nothing, where too many were made
abbrev pub answer_of : Result (Unit {0}) AskFault → Option AskAnswer
answer_of (Ok done) = Some ask.Ok
answer_of (Err fault.Memory) = Some ask.Memory
answer_of (Err fault.NotLive) = Some ask.NotLive
answer_of (Err fault.TooManyAsks) = None
answer_of (Err fault.NoGroup) = Some ask.NoGroup
answer_of (Err fault.BadValue) = Some ask.BadValue
answer_of (Err fault.TooManyRefs) = Some ask.TooManyRefs

-- what is known of the hook that runs, or ran last, is as it was
pub record SameFire (old new : RelayValue) : Type 0 where
  pub me : new.me ≡ old.me
  pub asks : new.asks ≡ old.asks
  pub stopped : new.stopped ≡ old.stopped
  pub log : new.log ≡ old.log
  pub room : new.fire_room ≡ old.fire_room
  pub untimed : new.untimed ≡ old.untimed

-- the fault that a recorded refusal is
abbrev pub fault_of : AskAnswer → AskFault
fault_of ask.NotLive = fault.NotLive
fault_of ask.NoGroup = fault.NoGroup
fault_of ask.BadValue = fault.BadValue
fault_of ask.TooManyRefs = fault.TooManyRefs
fault_of ask.Ok = fault.Memory
fault_of ask.Memory = fault.Memory

-- an ask was recorded with its answer, and the relay is as it was
pub record IsRecorded (a : Act) (answer : AskAnswer) (old new : RelayValue) : Type 0 where
  pub state : new.state ≡ old.state
  pub log : new.log ≡ old.log ++ (entry.Asked old.me a answer, []) ∷ []
  pub asks : new.asks ≡ old.asks + 1
  pub me : new.me ≡ old.me
  pub stopped : new.stopped ≡ old.stopped

-- an ask that frees a side was recorded, and the free behind it
pub record FreeRecorded (e : SideId) (moved given : ℕ) (old new : RelayValue) : Type 0 where
  pub state : new.state ≡ old.state
  pub log : new.log ≡ old.log ++ (entry.Asked old.me (act.Free e) ask.Ok, []) ∷ (entry.Freed e cause.Hook moved given, []) ∷ []
  pub asks : new.asks ≡ old.asks + 1
  pub me : new.me ≡ old.me
  pub stopped : new.stopped ≡ old.stopped

-- an ask may be done: it is not one too many, nothing refuses it, and the side that it names was opened, and is live where it has to be
pub record MayAsk (a : Act) (old new : RelayValue) : Type 0 where
  pub same : new ≡ old
  pub few : old.asks < most_asks
  pub free : refusal old.state.settings old.state.plain a ≡ None
  pub named : NamesLinkBelow old.state.plain.opened a
  pub live : NamesLive old.state.plain a
  pub room : HasRoomForReference old.state.plain a

-- the hook that runs made this ask, which was answered so and recorded
pub record Recorded (old : RelayValue) (a : Act) (answer : AskAnswer) (new : RelayValue) : Type 0 where
  pub few : old.asks < most_asks
  pub does : AsksOne old.me a answer old.state (ask_events old.me old.state a answer) new.state
  pub log : new.log ≡ old.log ++ ask_events old.me old.state a answer
  pub asks : new.asks ≡ old.asks + 1
  pub me : new.me ≡ old.me
  pub stopped : new.stopped ≡ (old.stopped || stops (a, answer))

-- One ask by its answer. Where 256 were made in the fire already, nothing is done and nothing recorded.
abbrev pub AsksOnce : RelayValue → Act → Option AskAnswer → RelayValue → Type 0
AsksOnce old a None new = (most_asks ≤ old.asks) × (new ≡ old)
AsksOnce old a (Some answer) new = Recorded old a answer new

-- What a hook did: asks in a row, each recorded.
pub record Steps (old new : RelayValue) : Type 0 where
  pub asked : List (Act × AskAnswer)
  pub added : Trace
  pub does : AsksAll old.me asked old.state added new.state
  pub log : new.log ≡ old.log ++ added
  pub asks : new.asks ≡ old.asks + length asked
  pub few : new.asks ≤ most_asks
  pub me : new.me ≡ old.me
  pub stopped : new.stopped ≡ (old.stopped || list_any stops asked)

-- A fire of a side's hook: its asks, and their events, which are the whole log.
pub record FiresSide (e : SideId) (old new : RelayValue) : Type 0 where
  pub asked : List (Act × AskAnswer)
  pub few : length asked ≤ most_asks
  pub does : AsksAll e asked old.state new.log new.state
  pub stopped : new.stopped ≡ list_any stops asked

-- who tells, tells this more
abbrev pub told_more : {A : Type 0} → Option (List A) → List A → Option (List A)
told_more told more = option_map (λ xs. xs ++ more) told

-- A hook that tells its plan, what it heard and what it asked has asked what its plan has for what it heard.
abbrev pub HasAskedByPlan : Option (List PlanLine) → Option (List Why) → Option (List (Act × AskAnswer)) → Type 0
HasAskedByPlan (Some plan) (Some heard) (Some asked) = IsPlanned plan heard asked
HasAskedByPlan _ _ _ = ⊤

-- who tells, tells nothing yet
abbrev pub HasToldNothing : {A : Type 0} → Option (List A) → Type 0
HasToldNothing None = ⊤
HasToldNothing (Some xs) = xs ≡ []
