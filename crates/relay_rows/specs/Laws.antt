-- What a replay says of the relation on traces: what is replayed is reached, what a replay refuses is not legal, and the
-- state of the replay is the only one.
use Rattle.std.specs.Prelude.{◌≡◌, ℕ, zero, suc, true, [], ◌∷◌, ◌++◌, Some, IsSome}
use Rattle.ev_types.specs.Trace.{Event, Trace}
use Rattle.relay_model.specs.Settings.{Settings}
use Rattle.relay_model.specs.Plain.{Plain}
use Rattle.relay_model.specs.Stages.{Stage, State, at}
use Rattle.relay_model.specs.Turn.{Quietly, Reaches, IsLegal}
use Rattle.relay_model.specs.Answers.{TurnAnswer, EndsWith}
use Rattle.relay_rows.specs.Replay.{replay, stage_after, refuses}

-- A trace that is replayed can lead to the state of the replay.
abbrev pub ReplayedIsReached : Type 0
ReplayedIsReached = (g : Settings) (t : Trace) (x : State) → replay g t ≡ Some x → Reaches g t x

-- A trace can lead to the stage in which its replay comes to rest.
abbrev pub RestIsReached : Type 0
RestIsReached = (g : Settings) (t : Trace) (x : Stage) → stage_after g t ≡ Some x → (s : Plain) × Reaches g t (at x s)

-- so many silent steps lead from one state to another
abbrev pub Ahead : Settings → Trace → ℕ → State → State → Type 0
Ahead g t zero a s = a ≡ s
Ahead g t (suc k) a s = (b : State) × Quietly g t a.stage a.plain b × Ahead g t k b s

-- All that a replayed trace can lead to is reached by silent steps from the state of the replay.
abbrev pub AllLiesAhead : Type 0
AllLiesAhead = (g : Settings) (t : Trace) (s a : State) → Reaches g t s → replay g t ≡ Some a → (k : ℕ) × Ahead g t k a s

-- an event can't stand behind a trace that can
abbrev pub IsRefused : Settings → Trace → Event → Type 0
IsRefused g t e = IsLegal g t × (IsLegal g (t ++ e ∷ []) → ⊥)

-- An event that the replay refuses behind a trace can't stand there.
abbrev pub RefusedIsIllegal : Type 0
RefusedIsIllegal = (g : Settings) (t : Trace) (e : Event) → refuses g t e ≡ true → IsRefused g t e

-- The replay accepts a trace, and the relation lets its last turn answer so.
pub record Accepts (g : Settings) (t : Trace) (answer : TurnAnswer) : Type 0 where
  pub replayed : IsSome (replay g t)
  pub legal : EndsWith g answer t

-- The last turn goes to its end; a hook of a link stops the run; a poll fails.
abbrev pub Goes : Settings → Trace → Type 0
Goes g t = Accepts g t TurnAnswer.Went

abbrev pub IsStoppedBy : ℕ → Settings → Trace → Type 0
IsStoppedBy link g t = Accepts g t (TurnAnswer.Stopped link)

abbrev pub FailsToPoll : Settings → Trace → Type 0
FailsToPoll g t = Accepts g t TurnAnswer.PollFault
