-- The relay without its bytes: what it keeps of each side, each direction and each timer. The bytes are what the trace
-- says; how the plain state goes on stands in Turn.
use Rattle.std.specs.Prelude.{nat_lt, if◌then◌else◌, ℕ, zero, suc, ◌+◌, Bool, true, false, not, ◌&&◌, List, [], ◌∷◌, ◌++◌, filter, slice_index_or}
use Rattle.std.specs.Prelude.{slice_set, Option, None, option_map}
use Rattle.ev_types.specs.declared.side.Side.{Side}
use Rattle.ev_types.specs.declared.side.Side.TheVariants.{In, Out}
use Rattle.ev_types.specs.declared.side.SideId.{SideId}
use Rattle.ev_types.specs.Sides.{number, same_end}
use Rattle.token_bucket.specs.declared.limit.LimitCfg.{LimitCfg}
use Rattle.relay_model.specs.Flow.{Flow, no_flow}
use Rattle.relay_model.specs.Settings.{Settings, rate_set, group_set, marks_set, timeouts_set}
use Rattle.ev_types.specs.Usual.{no_marks, no_timeouts}
use Rattle.ev_types.specs.declared.settings.Timeouts.{Timeouts}
use Rattle.ev_types.specs.declared.settings.Marks.{Marks}
use Rattle.relay_model.specs.Due.{Due, without_due}

-- A limit of a side, with the moment in which it was set, and what either bucket held then.
pub record Standing : Type 0 where
  pub cfg : LimitCfg
  pub turn : ℕ  -- the turn, counted from 1
  pub time : ℕ  -- its time
  pub read_level : ℕ
  pub write_level : ℕ

pub record PlainSide : Type 0 where
  pub live : Bool
  pub connecting : Bool
  pub reads : Bool  -- reading is enabled
  pub writes : Bool  -- writing is enabled
  pub ended : Bool  -- its end has ended
  pub failed : Bool  -- its end has failed
  pub expired : Bool  -- one of its timeouts has passed
  pub bad : Option ℕ  -- the first bad place that one of its filters met
  pub write_ended : Bool  -- writing was ended at its end
  pub closed : Bool  -- its end was closed
  pub marks : Marks
  pub timeouts : Timeouts
  pub last_read : ℕ  -- the last activity of reading
  pub last_write : ℕ  -- the last activity of writing
  pub limit : Option Standing
  pub group : Option ℕ
  pub references : ℕ

-- the one timer of a side
pub record Timer : Type 0 where
  pub side : SideId
  pub deadline : ℕ

-- Sides and directions of the opened links stand by their numbers, a direction at the side that it begins at.
pub record Plain : Type 0 where
  pub time : ℕ  -- the time of the last turn, in milliseconds
  pub turn : ℕ  -- how many turns were begun
  pub opened : ℕ  -- how many links were opened
  pub sides : List PlainSide
  pub flows : List Flow
  pub timers : List Timer  -- in the order of their deadlines, and of adding where those are equal
  pub due : List Due  -- the pending entries

abbrev pub nothing_yet : Plain
nothing_yet = record { time = 0; turn = 0; opened = 0; sides = []; flows = []; timers = []; due = [] }

-- what stands for a side that was never opened
abbrev pub no_side : PlainSide
no_side = record {
  live = false;
  connecting = false;
  reads = false;
  writes = false;
  ended = false;
  failed = false;
  expired = false;
  bad = None;
  write_ended = false;
  closed = false;
  marks = no_marks;
  timeouts = no_timeouts;
  last_read = 0;
  last_write = 0;
  limit = None;
  group = None;
  references = 0;
}

abbrev pub side_at : Plain → SideId → PlainSide
side_at s e = slice_index_or s.sides (number e) no_side

-- the direction that begins at a side
abbrev pub flow_at : Plain → SideId → Flow
flow_at s e = slice_index_or s.flows (number e) no_flow

abbrev pub put_side : SideId → PlainSide → Plain → Plain
put_side e x s = record s { sides = slice_set s.sides (number e) x }

abbrev pub put_flow : SideId → Flow → Plain → Plain
put_flow e f s = record s { flows = slice_set s.flows (number e) f }

-- the state with one side changed
abbrev pub change_side : SideId → (PlainSide → PlainSide) → Plain → Plain
change_side e change s = put_side e (change (side_at s e)) s

-- the state with the direction that begins at a side changed
abbrev pub change_flow : SideId → (Flow → Flow) → Plain → Plain
change_flow e change s = put_flow e (change (flow_at s e)) s

-- the sides of n links from number k on, In before Out
abbrev pub sides_from : ℕ → ℕ → List SideId
sides_from k zero = []
sides_from k (suc n) = record { link = k; side = In } ∷ record { link = k; side = Out } ∷ sides_from (k + 1) n

-- of the sides with the first numbers, so many, those for which something holds
abbrev pub sides_where : (SideId → Bool) → ℕ → List SideId
sides_where holds n = filter (λ e. nat_lt (number e) n && holds e) (sides_from 0 n)

-- all sides of the opened links, in number order
abbrev pub all_sides : Plain → List SideId
all_sides s = sides_from 0 s.opened

abbrev pub is_live : Plain → SideId → Bool
is_live s e = (side_at s e).live

-- A limit that is the first one of its side starts with a rate in either bucket.
abbrev pub first_limit : ℕ → ℕ → LimitCfg → Standing
first_limit time turn cfg = record { cfg = cfg; turn = turn; time = time; read_level = cfg.read_rate; write_level = cfg.write_rate }

-- a side as its link opens, in a turn and at its time
abbrev pub new_side : Settings → ℕ → ℕ → Side → Bool → PlainSide
new_side g time turn side connected = record {
  live = true;
  connecting = not connected;
  reads = true;
  writes = true;
  ended = false;
  failed = false;
  expired = false;
  bad = None;
  write_ended = false;
  closed = false;
  marks = marks_set g side;
  timeouts = timeouts_set g side;
  last_read = time;
  last_write = time;
  limit = option_map (first_limit time turn) (rate_set g side);
  group = group_set g side;
  references = 0;
}

-- a timer among others that are in the order of their deadlines, behind those with an equal one
abbrev pub placed : Timer → List Timer → List Timer
placed x [] = x ∷ []
placed x (y ∷ ys) = if nat_lt x.deadline y.deadline then x ∷ y ∷ ys else y ∷ placed x ys

-- the timers without that of a side
abbrev pub without_timer : SideId → List Timer → List Timer
without_timer e timers = filter (λ x. not (same_end x.side e)) timers

-- the state with one link more
abbrev pub with_link : Settings → Bool → Plain → Plain
with_link g connected s = record s {
  opened = s.opened + 1;
  sides = s.sides ++ new_side g s.time s.turn In true ∷ new_side g s.time s.turn Out connected ∷ [];
  flows = s.flows ++ no_flow ∷ no_flow ∷ [];
}

-- The side is out of the live ones. Its timer, its due reasons and its membership go with it.
abbrev pub freed : SideId → Plain → Plain
freed e s = change_side e (λ x. record x { live = false; group = None })
    (record s { timers = without_timer e s.timers; due = without_due e s.due })
