-- Which runs over a script end with a failed poll, told from the lines of the turns that were begun.
use Rattle.std.specs.Prelude.{◌≡◌, ℕ, ◌-◌, Bool, true, false, List, take}
use Rattle.std.specs.List.{flat_map, list_any}
use Rattle.ev_types.specs.Trace.{Trace}
use Rattle.relay_model.specs.Settings.{Settings}
use Rattle.relay_model.specs.Lines.{fails_poll}
use Rattle.ev_types.specs.ScriptTurn.{ScriptTurn}
use Rattle.relay_model.specs.Scripted.{begun, poll_fails}
use Rattle.relay_model.specs.Answers.{TurnAnswer, EndsWith}
use Rattle.relay_model.specs.Plays.{IsAnswered}

-- does a line of the first n turns fail the poll
abbrev pub fails_among : List ScriptTurn → ℕ → Bool
fails_among turns n = list_any fails_poll (flat_map (λ turn. turn.1) (take n turns))

-- What the answer of a turn says of the turns that were begun. After a failed poll, the one begun last has a line that fails the
-- poll, and none before it has. Want of memory may come before the poll of the one begun last: none before it has such a line.
-- After any other answer none at all has one.
abbrev pub PollsFailed : TurnAnswer → List ScriptTurn → Trace → Type 0
PollsFailed TurnAnswer.PollFault turns t = (poll_fails turns t ≡ true) × (fails_among turns (begun turns t - 1) ≡ false)
PollsFailed TurnAnswer.Memory turns t = fails_among turns (begun turns t - 1) ≡ false
PollsFailed TurnAnswer.Went turns t = fails_among turns (begun turns t) ≡ false
PollsFailed (TurnAnswer.Stopped link) turns t = fails_among turns (begun turns t) ≡ false
PollsFailed TurnAnswer.OpenFault turns t = fails_among turns (begun turns t) ≡ false
PollsFailed TurnAnswer.Spent turns t = fails_among turns (begun turns t) ≡ false

-- So it is of every legal trace whose answers are the script's.
abbrev pub PollsFailAsScripted : Type 0
PollsFailAsScripted = (g : Settings) (answer : TurnAnswer) (turns : List ScriptTurn) (closing_by : ℕ) (t : Trace) →
    IsAnswered turns closing_by t → EndsWith g answer t → PollsFailed answer turns t
