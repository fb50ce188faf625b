-- Which traces a run over a script has. A run is a list of steps: calls on a port, and what the relay does by itself. What
-- the script answers to the steps is a trace; that the relay calls for these steps is said by Turn.
use Rattle.std.specs.Prelude.{◌≡◌, ◌⊎◌, ℕ, ◌+◌, ◌<◌, ◌≤◌, ⊤, Bool, true, false, ◌&&◌, not, if◌then◌else◌, List, [], ◌∷◌, ◌++◌, length, map}
use Rattle.std.specs.Prelude.{fold, Option, MatchBool}
use Rattle.std.specs.List.{flat_map, list_any, list_all}
use Rattle.ev_types.specs.declared.side.SideId.{SideId}
use Rattle.ev_types.specs.declared.entry.Entry.{Entry}
use Rattle.ev_types.specs.declared.entry.Entry.TheVariants as entry
use Rattle.ev_types.specs.Trace.{Event, Trace}
use Rattle.relay_model.specs.Trace.{bytes_read}
use Rattle.relay_model.specs.Rooms.{Want}
use Rattle.ev_types.specs.Times.{turn_time}
use Rattle.relay_model.specs.Turn.{most_opened}
use Rattle.relay_model.specs.Answers.{TurnAnswer}
use Rattle.relay_model.specs.RatesKept.{is_turn}
use Rattle.relay_model.specs.Totals.{opened, opened_in_turn}
use Rattle.relay_model.specs.Lines.{brings}
use Rattle.ev_types.specs.ScriptTurn.{ScriptTurn}
use Rattle.relay_model.specs.Script.{Script, closing_step}
use Rattle.relay_model.specs.Scripted.{reading, begun, lines, waiting, pending, poll_fails, marks, conn_answer, read_answer, write_answer}

pub data PlayStep : Type 0 where
  Now : PlayStep  -- the clock is read
  Poll : Option ℕ → List Want → PlayStep  -- with this timeout and these wants
  Accept : PlayStep
  Check : SideId → PlayStep  -- an end is asked for its state
  Read : SideId → ℕ → PlayStep  -- with this room
  Write : SideId → List ℕ → PlayStep  -- with these bytes
  Own : Entry → PlayStep  -- what no port answers: fires, asks and frees, and ends of writing and of ends

abbrev pub want_events : List Want → Trace
want_events ws = map (λ w. (entry.Want w.side w.read w.write, [])) ws

abbrev pub ready_events : List Want → Trace
ready_events ws = map (λ w. (entry.Ready w.side w.read w.write, [])) ws

-- The first link that waits is opened, with the next number. Where none waits nothing is told.
abbrev pub accepted : ℕ → List Bool → Trace
accepted link [] = []
accepted link (undecided ∷ later) = (entry.Opened link (not undecided), []) ∷ []

abbrev pub own_events : Entry → Trace
own_events (entry.Fired side why) = (entry.Fired side why, []) ∷ []
own_events (entry.Asked side act answer) = (entry.Asked side act answer, []) ∷ []
own_events (entry.Freed side cause moved given) = (entry.Freed side cause moved given, []) ∷ []
own_events (entry.CloseWrite side) = (entry.CloseWrite side, []) ∷ []
own_events (entry.Close side) = (entry.Close side, []) ∷ []
own_events _ = []

-- what a step puts behind a trace
abbrev pub events : List ScriptTurn → ℕ → Trace → PlayStep → Trace
events turns closing_by t PlayStep.Now = (entry.Turn (turn_time t (reading turns closing_by (begun turns t))), []) ∷ []
events turns closing_by t (PlayStep.Poll timeout wants) =
    (entry.Poll timeout, []) ∷ want_events wants
    ++ (if poll_fails turns t then (entry.PollFailed, []) ∷ [] else ready_events (marks turns t wants))
events turns closing_by t PlayStep.Accept = accepted (opened t) (waiting turns t)
events turns closing_by t (PlayStep.Check e) = (entry.Conn e (conn_answer turns t e), []) ∷ []
events turns closing_by t (PlayStep.Read e room) = (entry.Read e room (read_answer turns t e room).0, (read_answer turns t e room).1) ∷ []
events turns closing_by t (PlayStep.Write e offered) =
    (entry.Write e (length offered) (write_answer turns t e offered).0, (write_answer turns t e offered).1) ∷ []
events turns closing_by t (PlayStep.Own x) = own_events x

-- the trace of a list of steps
abbrev pub trace_of : List ScriptTurn → ℕ → List PlayStep → Trace
trace_of turns closing_by steps = fold (λ t x. t ++ events turns closing_by t x) [] steps

-- Every answer in a trace is the script's.
abbrev pub IsAnswered : List ScriptTurn → ℕ → Trace → Type 0
IsAnswered turns closing_by t = (steps : List PlayStep) × (t ≡ trace_of turns closing_by steps)

-- No link waits; or as many were opened as a turn may open, or as may be opened in all.
abbrev pub AllTaken : (Trace → Type 0) → ℕ → Trace → Type 0
AllTaken none_waits links t = none_waits t ⊎ (opened_in_turn t ≡ most_opened) ⊎ (links ≤ opened t)

-- So it is by the lines of a script: all links that wait are opened, or as many as may be.
abbrev pub TookAll : List ScriptTurn → ℕ → Trace → Type 0
TookAll turns links t = AllTaken (λ u. waiting turns u ≡ []) links t

-- does accepting end before an entry: serving and all behind it, and the next turn
abbrev pub is_behind_accepting : Event → Bool
is_behind_accepting (entry.Poll timeout, bytes) = false
is_behind_accepting (entry.Want side read write, bytes) = false
is_behind_accepting (entry.Ready side read write, bytes) = false
is_behind_accepting (entry.PollFailed, bytes) = false
is_behind_accepting (entry.Opened link connected, bytes) = false
is_behind_accepting _ = true

-- Wherever accepting has ended behind a trace, so it was.
abbrev pub AlwaysAllTaken : (Trace → Type 0) → ℕ → Trace → Trace → Type 0
AlwaysAllTaken none_waits links before [] = ⊤
AlwaysAllTaken none_waits links before (x ∷ t) =
    MatchBool (is_behind_accepting x) (AllTaken none_waits links before) ⊤ × AlwaysAllTaken none_waits links (before ++ x ∷ []) t

abbrev pub AlwaysTookAll : List ScriptTurn → ℕ → Trace → Trace → Type 0
AlwaysTookAll turns links before t = AlwaysAllTaken (λ u. waiting turns u ≡ []) links before t

-- What the answer of a run says of the turns that were begun, so many being planned. A run that went made all of them. A turn
-- that went or stopped took all links; where a turn is refused as spent, the one before did, and one more was planned. A poll
-- fails, and memory is wanting, in any turn. No accept fails.
abbrev pub EndsPlayed : List ScriptTurn → ℕ → ℕ → TurnAnswer → Trace → Type 0
EndsPlayed turns links planned TurnAnswer.Went t = (begun turns t ≡ planned) × TookAll turns links t
EndsPlayed turns links planned (TurnAnswer.Stopped link) t = (begun turns t ≤ planned) × TookAll turns links t
EndsPlayed turns links planned TurnAnswer.PollFault t = begun turns t ≤ planned
EndsPlayed turns links planned TurnAnswer.OpenFault t = ⊥
EndsPlayed turns links planned TurnAnswer.Spent t = (begun turns t < planned) × TookAll turns links t
EndsPlayed turns links planned TurnAnswer.Memory t = begun turns t ≤ planned

-- A trace is played from a script by a run with this answer. Its turns are those of the script, and so many closing turns
-- behind them.
pub record Plays (script : Script) (closing : ℕ) (answer : TurnAnswer) (t : Trace) : Type 0 where
  pub answered : IsAnswered script.turns (closing_step script.settings) t
  pub took_all : AlwaysTookAll script.turns script.settings.links [] t
  pub turns : EndsPlayed script.turns script.settings.links (length script.turns + closing) answer t

-- What a script answers to one step more, it answers.
abbrev pub AnswersGoOn : Type 0
AnswersGoOn = (turns : List ScriptTurn) (closing_by : ℕ) (t : Trace) → IsAnswered turns closing_by t →
    (x : PlayStep) → IsAnswered turns closing_by (t ++ events turns closing_by t x)

-- Wherever every answer is a script's, what was read from an end and what is pending there is what the script brought in.
abbrev pub ReadsWhatComes : Type 0
ReadsWhatComes = (turns : List ScriptTurn) (closing_by : ℕ) (t : Trace) (e : SideId) → IsAnswered turns closing_by t →
    bytes_read e t ++ pending turns t e ≡ flat_map (brings e) (lines turns t)

-- is it an entry of a turn behind accepting
abbrev pub is_served : Event → Bool
is_served x = is_behind_accepting x && not (is_turn x)

-- A turn whose entries up to accepting stand before those behind it, as in every legal trace, keeps what is asked of all turns
-- before it where all was taken as it began and as it ends; or as it began, where it is cut off before accepting has ended.
abbrev pub TurnTakesAll : Type 0
TurnTakesAll = (turns : List ScriptTurn) (links : ℕ) (t : Trace) (ms : ℕ) (accepting behind : Trace) →
    AlwaysTookAll turns links [] t → TookAll turns links t → list_any is_behind_accepting accepting ≡ false → list_all is_served behind ≡ true →
    (behind ≡ []) ⊎ TookAll turns links (t ++ (entry.Turn ms, []) ∷ (accepting ++ behind)) →
    AlwaysTookAll turns links [] (t ++ (entry.Turn ms, []) ∷ (accepting ++ behind))
