-- What a relay stands for: the traces that led to the stage at which it is, and of which no byte was lost, made or changed.
use Rattle.std.specs.Prelude.{◌≡◌, ◌*◌, ◌<◌, ◌≤◌, false, List, [], length, None, slice_index_or}
use Rattle.ev_types.specs.declared.filter.FilterKind.TheVariants as kind
use Rattle.ev_types.specs.declared.side.SideId.{SideId}
use Rattle.ev_types.specs.Sides.{number, peer}
use Rattle.ev_types.specs.Trace.{Trace}
use Rattle.relay_model.specs.Trace.{bytes_read, bytes_given, has_ended, moved_at_free, given_at_free, is_write_closed}
use Rattle.relay_model.specs.Conserved as direction
use Rattle.relay_model.specs.Conserved.{Buffers}
use Rattle.filter_model.specs.Running.{Running}
use Rattle.relay_model.specs.Settings.{Settings}
use Rattle.relay_model.specs.Plain.{Plain, nothing_yet, side_at, flow_at, is_live}
use Rattle.relay_model.specs.Rooms.{read_kind, write_kind, read_filter, write_filter}
use Rattle.relay_model.specs.Stages.{Stage, at}
use Rattle.relay_model.specs.Turn.{Reaches}

-- the two running filters of a direction: the read filter of the side that it begins at, and its peer's write filter
pub record Runnings : Type 0 where
  pub reader : Running
  pub writer : Running

-- All that a relay keeps. What belongs to a direction stands by the number of the side that it begins at.
pub record Kept : Type 0 where
  pub plain : Plain
  pub buffers : List Buffers
  pub runnings : List Runnings

abbrev pub no_buffers : Buffers
no_buffers = record { raw_input = []; input = []; output = []; raw_output = [] }

abbrev pub not_running : Running
not_running = record { kind = kind.None; since = 0; used = 0; last = None; finished = false; stopped = None }

abbrev pub no_runnings : Runnings
no_runnings = record { reader = not_running; writer = not_running }

abbrev pub buffers_at : List Buffers → SideId → Buffers
buffers_at buffers e = slice_index_or buffers (number e) no_buffers

abbrev pub runnings_at : List Runnings → SideId → Runnings
runnings_at runnings e = slice_index_or runnings (number e) no_runnings

-- nothing is told of an end
pub record IsUntold (t : Trace) (e : SideId) : Type 0 where
  pub read : bytes_read e t ≡ []
  pub given : bytes_given e t ≡ []
  pub ended : has_ended e t ≡ false
  pub moved_at_free : moved_at_free e t ≡ []
  pub given_at_free : given_at_free e t ≡ []
  pub write_closed : is_write_closed e t ≡ false

-- the trace accounts for the direction that begins at a side
abbrev pub DirectionAccounted : Settings → Trace → Plain → SideId → Type 0
DirectionAccounted g t s e =
    direction.Accounted (read_filter g s e) (write_filter g s (peer e)) t e (bytes_read e t) (bytes_given (peer e) t) (has_ended e t) (flow_at s e)

-- its buffers and running filters hold exactly what the counts leave
abbrev pub DirectionHolds : Settings → Trace → Plain → SideId → Buffers → Runnings → Type 0
DirectionHolds g t s e b x =
    direction.Holds (read_kind g e.side) (write_kind g (peer e).side) (read_filter g s e) (write_filter g s (peer e))
    (bytes_read e t) (has_ended e t) (is_live s e) (is_live s (peer e)) (flow_at s e) b x.reader x.writer

-- What a trace and the counts say of a relay: every direction of every opened link is accounted for, a side has ended where
-- the trace says so, and nothing is told of a link that was not opened.
pub record AllAccounted (g : Settings) (t : Trace) (s : Plain) : Type 0 where
  pub sides : length s.sides ≡ 2 * s.opened
  pub flows : length s.flows ≡ 2 * s.opened
  pub each : (e : SideId) → e.link < s.opened → DirectionAccounted g t s e
  pub ended : (e : SideId) → e.link < s.opened → (side_at s e).ended ≡ has_ended e t
  pub unopened : (e : SideId) → s.opened ≤ e.link → IsUntold t e

-- No byte is lost, made or changed: the trace accounts for all that the counts say, and every direction of every opened link
-- holds exactly what the counts leave.
pub record Conserved (g : Settings) (t : Trace) (s : Plain) (buffers : List Buffers) (runnings : List Runnings) : Type 0 where
  pub accounted : AllAccounted g t s
  pub buffers_kept : length buffers ≡ 2 * s.opened
  pub runnings_kept : length runnings ≡ 2 * s.opened
  pub each : (e : SideId) → e.link < s.opened → DirectionHolds g t s e (buffers_at buffers e) (runnings_at runnings e)

abbrev pub KeptConserved : Settings → Trace → Kept → Type 0
KeptConserved g t v = Conserved g t v.plain v.buffers v.runnings

-- a relay at some stage of a turn stands for a trace
pub record Stands (g : Settings) (t : Trace) (x : Stage) (v : Kept) : Type 0 where
  pub reached : Reaches g t (at x v.plain)
  pub conserved : KeptConserved g t v

-- Before the first turn a relay without links stands for the trace of no entries.
abbrev pub NothingStands : Type 0
NothingStands = (g : Settings) → Stands g [] Stage.Between (record { plain = nothing_yet; buffers = []; runnings = [] })
