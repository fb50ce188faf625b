-- What holds of every legal trace, whatever ports, clocks and hooks do.
use Rattle.std.specs.Prelude.{◌≡◌, ◌*◌, ◌++◌, length, count_by, option_map}
use Rattle.ev_types.specs.declared.side.SideId.{SideId}
use Rattle.ev_types.specs.Trace.{Trace}
use Rattle.relay_model.specs.Settings.{Settings}
use Rattle.relay_model.specs.Plain.{Plain, side_at}
use Rattle.relay_model.specs.Groups.{group_after}
use Rattle.relay_model.specs.Totals.{is_opened}
use Rattle.relay_model.specs.Stages.{State}
use Rattle.relay_model.specs.Turn.{Reaches, IsLegal}
use Rattle.relay_model.specs.RatesKept.{is_turn, last_time, limit_after, RatesKept}

-- The state's time is that of the last turn that began, and its number of turns is how many began. It has as many links as
-- were opened, and two sides and two directions for each.
pub record ShapeIsTold (t : Trace) (s : Plain) : Type 0 where
  pub time : s.time ≡ last_time 0 t
  pub turn : s.turn ≡ count_by is_turn t
  pub opened : s.opened ≡ count_by is_opened t
  pub sides : length s.sides ≡ 2 * s.opened
  pub flows : length s.flows ≡ 2 * s.opened

abbrev pub TraceTellsShape : Type 0
TraceTellsShape = (g : Settings) (t : Trace) (s : State) → Reaches g t s → ShapeIsTold t s.plain

-- Each beginning of a legal trace is legal.
abbrev pub BeginningsAreLegal : Type 0
BeginningsAreLegal = (g : Settings) (t u : Trace) → IsLegal g (t ++ u) → IsLegal g t

-- The limit and the group of a side are those that the trace tells.
pub record RatesAreTold (g : Settings) (t : Trace) (s : Plain) (e : SideId) : Type 0 where
  pub limit : option_map (λ x. x.cfg) (side_at s e).limit ≡ limit_after g e t
  pub group : (side_at s e).group ≡ group_after g e t

abbrev pub TraceTellsRates : Type 0
TraceTellsRates = (g : Settings) (t : Trace) (s : State) → Reaches g t s → (e : SideId) → RatesAreTold g t s.plain e

-- All sides and all groups keep to their limits in every legal trace.
abbrev pub LimitsAreKept : Type 0
LimitsAreKept = (g : Settings) (t : Trace) → IsLegal g t → RatesKept g t
