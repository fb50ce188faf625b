-- Runs of a script: when one may begin, and how its turns end, as the answer of the last of them and as the status of the program.
use Rattle.std.specs.Prelude.{◌≡◌, ◌≤◌, ◌-◌, ◌^◌, ⊤, ℕ, List, [], length, min, count_by, None, Result, Ok, Err}
use Rattle.std.specs.List.{All}
use Rattle.ev_types.specs.ScriptTurn.{ScriptTurn, lines_of}
use Rattle.ev_types.specs.Trace.{Trace}
use Rattle.relay_model.specs.RatesKept.{is_turn}
use Rattle.relay_model.specs.Settings.{Settings, HoldsSome}
use Rattle.relay_state.specs.State.{new_state}
use Rattle.relay_steps.specs.Meaning.{HasItsGroups}
use Rattle.relay_drive.specs.DriveValue.{DriveValue}
use Rattle.relay_drive.specs.declared.fault.DriveFault.{DriveFault}
use Rattle.relay_drive.specs.declared.fault.DriveFault.TheVariants as fault
use Rattle.relay_laws.specs.Spelling.{BringsFit, TimeoutsFit}
use Rattle.relay_model.specs.Called.{NamesOpened}
use Rattle.relay_model.specs.ClosingTurns.{scripted_links}
use Rattle.drain_laws.specs.CanDrain.{NoneBehind}
use Rattle.script_port.specs.ScriptPlan.{first_plan}
use Rattle.script_port.specs.ScriptPort.{new_port}
use Rattle.script_port.specs.ScriptState.{PortState}
use Rattle.script_port.specs.ScriptVouched.{ScriptVouches}
use Rattle.script_text.specs.Brought.{all_brought}
use Rattle.script_text.specs.Script.{ScriptValue}
use Rattle.ev_types.specs.declared.status.Status.{Status}
use Rattle.ev_types.specs.declared.status.Status.TheVariants as status
use Rattle.relay_model.specs.Answers.{TurnAnswer}
use Rattle.evplay.specs.declared.run.RunEnd.{RunEnd}
use Rattle.evplay.specs.declared.run.RunEnd.TheVariants as run_end

abbrev pub answer_of : RunEnd → TurnAnswer
answer_of run_end.Went = TurnAnswer.Went
answer_of run_end.PollFailed = TurnAnswer.PollFault
answer_of (run_end.Stopped link turn) = TurnAnswer.Stopped link

abbrev pub ended_as : RunEnd → Status
ended_as run_end.Went = status.Ok
ended_as run_end.PollFailed = status.PollFault
ended_as (run_end.Stopped link turn) = status.Stopped link turn

-- what is told of the turn that a hook ended: its number, counted from 1
abbrev pub TellsTurn : RunEnd → Trace → Type 0
TellsTurn run_end.Went t = ⊤
TellsTurn run_end.PollFailed t = ⊤
TellsTurn (run_end.Stopped link turn) t = turn ≡ min (count_by is_turn t) (2 ^ 32 - 1)

-- a refused turn ends a run with a failed poll, or is the refusal of the run
abbrev pub refused_by : DriveFault → Result RunEnd DriveFault
refused_by fault.PollFault = Ok run_end.PollFailed
refused_by other = Err other

-- a script, with the turns that a port plays
abbrev pub script_over : ScriptValue → PortState → ScriptValue
script_over script p = record script { turns = p.turns }

-- a drive of these settings that has made no turn
abbrev pub first_drive : Settings → DriveValue
first_drive g = record { state = new_state g; entries = 0; kept = None }

-- So long may the turns of a script be: at most 20,000, in which at most 256 links are opened and 2^23 bytes brought in, at moments of at
-- most 2^40.
pub record AreSmall (turns : List ScriptTurn) : Type 0 where
  pub few : length turns ≤ 20000
  pub links : length (scripted_links turns) ≤ 256
  pub bytes : all_brought (lines_of turns) ≤ 2 ^ 23
  pub moments : All (λ turn. turn.0 ≤ 2 ^ 40) turns

-- A run of so many turns with these settings may begin over a port: it plays a script of so many, none of which it has begun; the script
-- names only links that it opens and brings in nothing behind an end; what it brings in, its moments and the timeouts can be counted. The
-- hold mark isn't 0, there are few hooks, and the groups are in order.
pub record MayRun (turns : ℕ) (g : Settings) (p : PortState) : Type 0 where
  pub many : turns ≡ length p.turns
  pub small : AreSmall p.turns
  pub names : NamesOpened 0 (lines_of p.turns)
  pub ordered : NoneBehind (lines_of p.turns)
  pub brings : BringsFit p.turns
  pub links : g.links ≡ 256
  pub hooks : length g.hooks ≤ 64
  pub groups : HasItsGroups g
  pub timeouts : TimeoutsFit g
  pub holds : HoldsSome g
  pub fresh : p ≡ new_port p.turns
  pub vouched : (step : ℕ) → ScriptVouches p (first_plan p.turns step) []
