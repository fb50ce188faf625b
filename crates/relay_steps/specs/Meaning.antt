-- What the relay's state means in the model: for which traces it stands. What keeps that so stands in the proofs.
use Rattle.std.specs.Prelude.{◌≡◌, ◌*◌, ◌<◌, true, length, is_some, IfSome}
use Rattle.std.specs.List.{AllByRecursion}
use Rattle.ev_types.specs.declared.side.SideId.{SideId}
use Rattle.ev_types.specs.Sides.{peer}
use Rattle.ev_types.specs.Trace.{Trace}
use Rattle.relay_model.specs.Trace.{bytes_read}
use Rattle.relay_model.specs.Settings.{Settings}
use Rattle.relay_model.specs.Flow.{middle, outcome}
use Rattle.relay_model.specs.Plain.{Plain, side_at, flow_at}
use Rattle.relay_model.specs.Rooms.{read_filter, write_filter}
use Rattle.relay_model.specs.Stages.{Stage, at}
use Rattle.relay_model.specs.Turn.{Reaches}
use Rattle.relay_model.specs.Answers.{TurnAnswer, LeftAt}
use Rattle.relay_model.specs.Stands.{DirectionHolds}
use Rattle.relay_model.specs.StepLaws.{AccountsFit}
use Rattle.relay_state.specs.State.{State, Lane, lane_at}
use Rattle.relay_steps.specs.Gauges.{Gauged}
use Rattle.relay_steps.specs.Grouped.{Grouped}

-- Sides that join a group as their link opens join one that there is, and each group has a share above 0.
pub record HasItsGroups (g : Settings) : Type 0 where
  pub in_group : IfSome g.in_group (λ n. n < length g.groups)
  pub out_group : IfSome g.out_group (λ n. n < length g.groups)
  pub shares : AllByRecursion (λ x. 0 < x.share) g.groups

-- A lane fits a trace and the state of the model that it leads to: it holds exactly the bytes that the counts leave, its filters stand
-- where the counts say, its own counts are told, and a filter that stopped at a bad place has marked its side.
pub record LaneFits (g : Settings) (t : Trace) (p : Plain) (e : SideId) (l : Lane) : Type 0 where
  pub holds : DirectionHolds g t p e l.buffers (record { reader = l.reader; writer = l.writer })
  pub read : l.read ≡ length (bytes_read e t)
  pub read_made : l.read_made ≡ length (middle (read_filter g p e) (bytes_read e t) (flow_at p e))
  pub write_made : l.write_made ≡ length (outcome (read_filter g p e) (write_filter g p (peer e)) (bytes_read e t) (flow_at p e))
  pub reader_marks : is_some l.reader.stopped ≡ true → is_some (side_at p e).bad ≡ true
  pub writer_marks : is_some l.writer.stopped ≡ true → is_some (side_at p (peer e)).bad ≡ true

-- The relay stands for a trace at a stage of a turn: the trace leads to exactly its plain state there, every direction is accounted
-- for, and every lane fits.
pub record StandsFor (t : Trace) (x : Stage) (s : State) : Type 0 where
  pub reached : Reaches s.settings t (at x s.plain)
  pub accounts : AccountsFit s.settings t s.plain
  pub many : length s.lanes ≡ 2 * s.plain.opened
  pub each : (e : SideId) → e.link < s.plain.opened → LaneFits s.settings t s.plain e (lane_at s e)
  pub groups : HasItsGroups s.settings
  pub gauged : Gauged t s.plain s.gauges
  pub grouped : Grouped s.settings t s.plain s.groups

-- It stands so at a stage at which a turn may answer so.
pub record LeftFor (answer : TurnAnswer) (t : Trace) (s : State) : Type 0 where
  pub stage : Stage
  pub stands : StandsFor t stage s
  pub left : LeftAt s.settings answer stage s.plain
