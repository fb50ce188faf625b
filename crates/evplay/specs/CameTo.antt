-- How far a run over a script port came: what holds between two of its turns, and where its last turn ended it.
use Rattle.std.specs.Prelude.{◌≡◌, ℕ, ◌+◌, ◌*◌, ◌≤◌, List, Option, None, length, count_by, sum_by}
use Rattle.ev_types.specs.AskNumbers.{AsksFit}
use Rattle.ev_types.specs.ScriptTurn.{ScriptTurn}
use Rattle.ev_types.specs.Trace.{Trace}
use Rattle.ev_types.specs.declared.plan_line.PlanLine.{PlanLine}
use Rattle.ev_types.specs.declared.side.SideId.{SideId}
use Rattle.relay_model.specs.Hooked.{AskPlanned}
use Rattle.relay_model.specs.RatesKept.{is_turn}
use Rattle.relay_model.specs.Settings.{Settings}
use Rattle.relay_model.specs.Stages.{Stage}
use Rattle.relay_state.specs.Counting.{buffered_below, open_below}
use Rattle.relay_state.specs.State.{State}
use Rattle.relay_steps.specs.Meaning.{StandsFor, LeftFor}
use Rattle.relay_drive.specs.Bounds.{IsWithin, most_of_turn}
use Rattle.relay_drive.specs.DriveStands.{DriveStands}
use Rattle.relay_drive.specs.DriveValue.{DriveValue}
use Rattle.relay_drive.specs.Known.{known, Point, Question}
use Rattle.relay_drive.specs.Seats.{Telling}
use Rattle.relay_laws.specs.Relayed.{StoodBetween}
use Rattle.relay_laws.specs.TurnEnds.{AtTurnEnds}
use Rattle.program_end.specs.Planned.{AllToldOf}
use Rattle.script_port.specs.ScriptState.{EndState, PortState}
use Rattle.script_port.specs.ScriptTold.{port_told, ends_told}
use Rattle.script_port.specs.ScriptPlan.{first_plan, ScriptPlan}
use Rattle.script_port.specs.ScriptVouched.{NoneWaits, ScriptVouches}
use Rattle.evplay.specs.declared.run.RunEnd.{RunEnd}
use Rattle.evplay.specs.declared.run.RunEnd.TheVariants as run_end
use Rattle.evplay.specs.Headline.{DrainsByTurns}
use Rattle.evplay.specs.Run.{answer_of, TellsTurn}

-- what is known of a script port and a trace by a plan
abbrev pub PortKnown : Point → PortState → State → ScriptPlan → Trace → Type 0
PortKnown at p s plan t = known at (ScriptVouches p) NoneWaits (port_told p) (ends_told p.links) s.settings (Question.Took plan) t

-- A run stands between two turns, and made so many. The drive keeps no answer, stands for the trace, and came no farther than so many
-- turns can go. The port vouches for that trace by a plan, and every link that waited was accepted. Wherever a turn ended, the run stood
-- for the trace up to there.
pub record StandsAfter (g : Settings) (n : ℕ) (plan : ScriptPlan) (d : DriveValue) (p : PortState) (t : Trace) : Type 0 where
  pub calm : d.kept ≡ None
  pub settings : d.state.settings ≡ g
  pub stands : DriveStands t d
  pub turns : count_by is_turn t ≡ n
  pub seen : PortKnown Point.Between p d.state plan t
  pub means : StandsFor t Stage.Between d.state
  pub ends : AtTurnEnds (StoodBetween g) t
  pub within : IsWithin (n * most_of_turn 256 64) 256 64 d

-- how far the last turn came with accepting
abbrev pub point_of : RunEnd → Point
point_of run_end.Went = Point.Between
point_of run_end.PollFailed = Point.Accepting
point_of (run_end.Stopped link turn) = Point.Accepted

-- A run ended so, with at most so many turns.
pub record EndedAt (g : Settings) (n : ℕ) (end : RunEnd) (plan : ScriptPlan) (d : DriveValue) (p : PortState) (t : Trace) : Type 0 where
  pub settings : d.state.settings ≡ g
  pub asks : AsksFit t
  pub turns : count_by is_turn t ≤ n
  pub seen : PortKnown (point_of end) p d.state plan t
  pub left : LeftFor (answer_of end) t d.state
  pub ends : AtTurnEnds (StoodBetween g) t

-- Some turns of a run went to their end, and it stands between two; or one of them ended it.
abbrev pub CameTo : Settings → ℕ → RunEnd → ScriptPlan → DriveValue → PortState → Trace → Type 0
CameTo g n run_end.Went plan d p t = StandsAfter g n plan d p t
CameTo g n end plan d p t = EndedAt g n end plan d p t

-- what the hooks of a run have told of its trace, by what was planned
abbrev pub ToldTo : {H : Type 0} → Telling H → RunEnd → (SideId → List PlanLine) → List (Option H) → List (Option H) → Trace → Type 0
ToldTo tells run_end.Went plan hooks gone t = AllToldOf tells plan hooks gone t
ToldTo tells end plan hooks gone t = AskPlanned plan (answer_of end) t

-- the most closing turns by what a relay and a script port count: 4, 10 for each pending byte, 8 for each in buffers, 24 for each link that
-- is open or waits
abbrev pub counted_most : State → PortState → ℕ
counted_most s p =
    4 + 10 * sum_by (λ (x : EndState). length x.pending) p.links.ends + 8 * buffered_below s s.plain.opened
    + 24 * (open_below s s.plain.opened + length p.links.waiting)

-- a script's turns, of which so many closing turns were announced
abbrev pub closing_plan : List ScriptTurn → ℕ → ℕ → ScriptPlan
closing_plan turns step closing = record (first_plan turns step) { closing = closing }

-- Closing turns of a run came to this end: so many were announced, and the run drains its links.
pub record CameToEnd (g : Settings) (turns : List ScriptTurn) (step : ℕ) (end : RunEnd) (d : DriveValue) (p : PortState) (t : Trace) :
    Type 0 where
  pub closing : ℕ
  pub came : CameTo g (length turns + closing) end (closing_plan turns step closing) d p t
  pub drains : DrainsByTurns turns g (answer_of end) t
  pub tells : TellsTurn end t
