-- What `play` says of the trace that it writes: a relay made it, and it is played from the script.
use Rattle.std.specs.Prelude.{◌≡◌, ◌≢◌, ◌⊎◌, ℕ, ◌+◌, ◌≤◌, true, Ok, List, map, length}
use Rattle.ev_types.specs.ScriptTurn.{ScriptTurn}
use Rattle.ev_types.specs.Trace.{Trace}
use Rattle.command_words.specs.declared.mode.Ending.{Ending}
use Rattle.command_words.specs.declared.mode.Ending.TheVariants as ending
use Rattle.ev_types.specs.declared.status.LinkCount.{LinkCount}
use Rattle.script_text.specs.Script.{ScriptValue}
use Rattle.script_text.specs.TraceText.{trace_text}
use Rattle.script_text.specs.TraceSpelled.{trace_of}
use Rattle.relay_model.specs.Settings.{Settings, model_settings}
use Rattle.relay_model.specs.Answers.{TurnAnswer}
use Rattle.relay_model.specs.Plays.{Plays}
use Rattle.relay_model.specs.Script.{Script, plan_of, run_settings}
use Rattle.relay_model.specs.Hooked.{AskPlanned}
use Rattle.relay_model.specs.Polls.{PollsFailed}
use Rattle.relay_model.specs.Scripted.{begun}
use Rattle.relay_model.specs.ClosingTurns.{most_closing_turns, Drains}
use Rattle.relay_core.specs.GivenGroups.{group_given}
use Rattle.relay_laws.specs.Relayed.{IsRelayed}
use Rattle.drain_laws.specs.CanDrain.{CanDrain}
use Rattle.drain_laws.specs.DrainBound.{AllLinksDone, IsOfTurns}
use Rattle.evplay.specs.HandedIn.{HandedIn}

-- the settings of a script's run: what its lines set, and else the usual ones; its groups, and those of which its sides are members
abbrev pub settings_of : ScriptValue → Settings
settings_of script = record (model_settings script.settings) {
  groups = map group_given script.groups;
  in_group = script.members.in_group;
  out_group = script.members.out_group;
}

-- the script as the model plays it
abbrev pub script_run : ScriptValue → Script
script_run script = record { settings = settings_of script; plans = script.plans; turns = script.turns }

-- the settings of its run with these hooks: of those sides that were handed one, all have one for which something is planned
abbrev pub settings_on : ScriptValue → HandedIn → Settings
settings_on script handed = run_settings (script_run script) handed.many

-- A hook or a failed poll ended a run within the turns of its script.
pub record EndedEarly (turns : List ScriptTurn) (answer : TurnAnswer) (t : Trace) : Type 0 where
  pub begun : begun turns t ≤ length turns
  pub ended : answer ≢ TurnAnswer.Went

-- It drains its links, and the first closing turn begins where the script's last turn ended.
abbrev pub DrainsByTurns : List ScriptTurn → Settings → TurnAnswer → Trace → Type 0
DrainsByTurns turns g answer t = (run : Drains turns g answer t) × IsOfTurns run.closing

-- How a run ends: with the last turn of its script, and so with no closing turns; or with closing turns behind it until no link is open,
-- or as many as the most were made.
abbrev pub EndsAs : Ending → List ScriptTurn → Settings → TurnAnswer → ℕ → Trace → Type 0
EndsAs ending.LastTurn turns g answer closing t = closing ≡ 0
EndsAs ending.Drained turns g answer closing t = DrainsByTurns turns g answer t ⊎ EndedEarly turns answer t

-- Every link is done, after no more closing turns than 4, 10 for each byte that was not read as they began, 8 for each in buffers, and 24
-- for each link that was open or waited to be.
pub record IsDrained (turns : List ScriptTurn) (g : Settings) (t : Trace) : Type 0 where
  pub drains : Drains turns g TurnAnswer.Went t
  pub few : begun turns t ≤ length turns + most_closing_turns turns g drains.scripted drains.plain
  pub done : AllLinksDone turns t

-- So it is at the end of a run with closing turns, where the script and its settings let it.
abbrev pub DrainsWhereItCan : Ending → List ScriptTurn → Settings → TurnAnswer → Trace → Type 0
DrainsWhereItCan how turns g answer t = how ≡ ending.Drained → answer ≡ TurnAnswer.Went → CanDrain g turns → IsDrained turns g t

-- A relay made this trace and its report, and ended with this answer: no byte was lost, made or changed, each side was given a prefix of
-- what the filters make of what was read at the other, limits were kept, and wherever a turn ended buffers held no more than their marks
-- allow. The trace is played from the script: its turns are the script's, and closing turns behind them where the run drains its links;
-- every answer in it is the script's, and every link that waits is accepted. Where all hooks tell, each asked what the script plans for
-- what it heard. Its text, read as a trace, is the same trace.
pub record IsRun (script : ScriptValue) (how : Ending) (handed : HandedIn) (answer : TurnAnswer) (t : Trace) (links : List LinkCount) :
    Type 0 where
  pub relayed : IsRelayed (settings_on script handed) answer t links
  pub closing : ℕ
  pub played : Plays (script_run script) closing answer t
  pub ends : EndsAs how script.turns (settings_on script handed) answer closing t
  pub drained : DrainsWhereItCan how script.turns (settings_on script handed) answer t
  pub polls : PollsFailed answer script.turns t
  pub asked : handed.tell ≡ true → AskPlanned (plan_of (script_run script)) answer t
  pub read_back : trace_of (trace_text t) ≡ Ok t
