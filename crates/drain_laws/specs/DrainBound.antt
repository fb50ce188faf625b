-- That closing turns bring every link to its end, and how few of them do.
use Rattle.std.specs.Prelude.{◌≡◌, ◌⊎◌, ℕ, ◌+◌, ◌*◌, ◌<◌, ◌≤◌, true, List, [], ◌++◌, length, sum_by}
use Rattle.std.specs.List.{flat_map}
use Rattle.ev_types.specs.declared.status.LinkCount.{LinkCount}
use Rattle.ev_types.specs.declared.status.LinkState.TheVariants as state
use Rattle.ev_types.specs.ScriptTurn.{ScriptTurn, lines_of}
use Rattle.ev_types.specs.Trace.{Trace}
use Rattle.relay_model.specs.Settings.{Settings}
use Rattle.relay_model.specs.Plain.{Plain}
use Rattle.relay_model.specs.Stages.{Stage, at}
use Rattle.relay_model.specs.Turn.{Reaches, IsLegal}
use Rattle.relay_model.specs.Onward.{Leads}
use Rattle.relay_model.specs.Answers.{TurnAnswer}
use Rattle.relay_model.specs.Plays.{IsAnswered, AlwaysTookAll, TookAll}
use Rattle.relay_model.specs.Script.{closing_step}
use Rattle.relay_model.specs.Scripted.{begun, pending, waiting}
use Rattle.relay_model.specs.Called.{NamesOpened}
use Rattle.relay_model.specs.Totals.{opened}
use Rattle.relay_model.specs.OpenLinks.{open_link_count, FreesAreDone}
use Rattle.relay_model.specs.Work.{PairsMoveOn}
use Rattle.relay_model.specs.Plain.{sides_from}
use Rattle.relay_model.specs.ClosingTurns.{scripted_links, unread_count, all_buffered, most_closing_turns, Drains}
use Rattle.relay_state.specs.State.{State}
use Rattle.relay_state.specs.Counting.{buffered_below, open_below}
use Rattle.relay_steps.specs.Meaning.{StandsFor}
use Rattle.relay_laws.specs.Links.{link_state_in}
use Rattle.relay_laws.specs.Relayed.{IsRelayed}
use Rattle.relay_laws.specs.TurnEnds.{begins_turn}
use Rattle.drain_laws.specs.CanDrain.{CanDrain, LeavesRoom, IsCountable, NoneBehind, closing_turn_bound}

-- In a run over a script that can be drained each free is of a side that is done.
abbrev pub FreesAreOfDone : Type 0
FreesAreOfDone = (g : Settings) (turns : List ScriptTurn) (closing_by : ℕ) (t : Trace) → CanDrain g turns → NoneBehind (lines_of turns) →
    IsLegal g t → IsAnswered turns closing_by t → FreesAreDone t

-- What a relay counts in buffers, and what links it counts as open, is what these words say of the trace for which it stands.
abbrev pub CountsAreAsTold : Type 0
CountsAreAsTold = (t : Trace) (x : Stage) (s : State) → StandsFor t x s →
    (buffered_below s s.plain.opened ≡ all_buffered s.settings t s.plain) × (open_below s s.plain.opened ≡ open_link_count s.plain)

-- the bytes that came in at the ends of a script's links, and that no read gave yet
abbrev pub all_pending : List ScriptTurn → Trace → ℕ
all_pending turns t = sum_by (λ e. length (pending turns t e)) (sides_from 0 (length (scripted_links turns)))

-- Once all turns of a script were begun, the bytes that were not read are those that are pending.
abbrev pub UnreadIsPending : Type 0
UnreadIsPending = (g : Settings) (turns : List ScriptTurn) (closing_by : ℕ) (t : Trace) → NamesOpened 0 (lines_of turns) → IsLegal g t →
    IsAnswered turns closing_by t → length turns ≤ begun turns t → unread_count turns t ≡ all_pending turns t

-- Wherever a run over a script stands between turns, the most closing turns are no more than the script alone allows.
abbrev pub MostIsBounded : Type 0
MostIsBounded = (g : Settings) (turns : List ScriptTurn) (closing_by : ℕ) (t : Trace) (s : Plain) → NamesOpened 0 (lines_of turns) →
    Reaches g t (at Stage.Between s) → IsAnswered turns closing_by t → most_closing_turns turns g t s ≤ closing_turn_bound turns

-- Closing turns of which no two in a row pass without an event that moves on are at most 10 for each byte that was not read before them,
-- 8 for each in buffers, 20 for each link that was open or waited to be, and 1.
abbrev pub ClosingTurnsAreFew : Type 0
ClosingTurnsAreFew = (g : Settings) (turns : List ScriptTurn) (closing_by : ℕ) (t : Trace) (s : Plain) (parts : List Trace)
    (after : Plain) → CanDrain g turns → NamesOpened 0 (lines_of turns) → NoneBehind (lines_of turns) → Reaches g t (at Stage.Between s) →
    Leads g t (at Stage.Between s) (t ++ flat_map (λ part. part) parts) (at Stage.Between after) →
    IsAnswered turns closing_by (t ++ flat_map (λ part. part) parts) → length turns ≤ begun turns t → PairsMoveOn parts →
    length parts ≤ 10 * unread_count turns t + 8 * all_buffered g t s + 20 * (open_link_count s + length (waiting turns t)) + 1

-- every link of a script was opened, and is done
pub record AllLinksDone (turns : List ScriptTurn) (t : Trace) : Type 0 where
  pub all_opened : opened t ≡ length (scripted_links turns)
  pub done : (link : ℕ) → link < opened t → link_state_in t link ≡ state.Done

-- a part of a trace begins with a turn, or is empty
abbrev pub IsOfTurns : Trace → Type 0
IsOfTurns part = (begins_turn part ≡ true) ⊎ (part ≡ [])

-- Over a script that can be drained, a run that goes on with closing turns until it ends brings every link to its end. For that the first
-- closing turn begins where the script's last turn ended.
abbrev pub DrainedLinksAreDone : Type 0
DrainedLinksAreDone = (g : Settings) (turns : List ScriptTurn) (t : Trace) (links : List LinkCount) → CanDrain g turns →
    LeavesRoom g → IsCountable g turns → IsRelayed g TurnAnswer.Went t links → IsAnswered turns (closing_step g) t →
    AlwaysTookAll turns g.links [] t → TookAll turns g.links t → (run : Drains turns g TurnAnswer.Went t) → IsOfTurns run.closing →
    AllLinksDone turns t
