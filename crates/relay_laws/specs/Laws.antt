-- What it is worth that a relay stands for a trace.
use Rattle.std.specs.Prelude.{◌≡◌, ◌<◌, [], map, length}
use Rattle.ev_types.specs.declared.side.SideId.{SideId}
use Rattle.ev_types.specs.Trace.{Trace}
use Rattle.relay_model.specs.Trace.{bytes_read, bytes_given}
use Rattle.relay_model.specs.Settings.{Settings}
use Rattle.relay_model.specs.Stages.{Stage}
use Rattle.relay_model.specs.Answers.{TurnAnswer, EndsWith}
use Rattle.relay_model.specs.Stands.{Kept, Stands}
use Rattle.relay_state.specs.State.{State, new_state}
use Rattle.relay_state.specs.Counting.{read_of, given_of}
use Rattle.relay_steps.specs.Meaning.{HasItsGroups, StandsFor, LeftFor}

-- Before the first turn a relay stands for the trace of no entries.
abbrev pub NewRelayStands : Type 0
NewRelayStands = (g : Settings) → HasItsGroups g → StandsFor [] Stage.Between (new_state g)

-- all that a relay keeps, as the model's record of that
abbrev pub kept_of : State → Kept
kept_of s = record {
  plain = s.plain;
  buffers = map (λ l. l.buffers) s.lanes;
  runnings = map (λ l. record { reader = l.reader; writer = l.writer }) s.lanes;
}

-- A relay that stands for a trace stands for it in the model, with what it keeps: the trace is legal, and no byte of it was lost,
-- made or changed.
abbrev pub MeansConserved : Type 0
MeansConserved = (t : Trace) (x : Stage) (s : State) → StandsFor t x s → Stands s.settings t x (kept_of s)

-- A relay that was left so was left by a trace that can end with that answer.
abbrev pub LeftIsLegal : Type 0
LeftIsLegal = (answer : TurnAnswer) (t : Trace) (s : State) → LeftFor answer t s → EndsWith s.settings answer t

-- Of each side of an opened link the relay counts exactly the bytes that the trace tells of: those read from its end and those
-- given to it.
abbrev pub CountsAreTold : Type 0
CountsAreTold = (t : Trace) (x : Stage) (s : State) → StandsFor t x s → (e : SideId) → e.link < s.plain.opened →
    (read_of s e ≡ length (bytes_read e t)) × (given_of s e ≡ length (bytes_given e t))
