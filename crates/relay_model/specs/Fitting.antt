-- The counts of every direction fit, in every state that a trace leads to.
use Rattle.ev_types.specs.declared.side.SideId.{SideId}
use Rattle.ev_types.specs.Sides.{peer}
use Rattle.ev_types.specs.Trace.{Trace}
use Rattle.relay_model.specs.Trace.{bytes_read, has_ended}
use Rattle.relay_model.specs.Flow.{Fits}
use Rattle.relay_model.specs.Settings.{Settings}
use Rattle.relay_model.specs.Plain.{Plain, flow_at}
use Rattle.relay_model.specs.Rooms.{read_filter, write_filter}
use Rattle.relay_model.specs.Stages.{State}
use Rattle.relay_model.specs.Turn.{Reaches}

-- the counts of the direction that begins at a side
abbrev pub DirectionFits : Settings → Trace → Plain → SideId → Type 0
DirectionFits g t s e = Fits (read_filter g s e) (write_filter g s (peer e)) (bytes_read e t) (has_ended e t) (flow_at s e)

-- No count passes what is there for it, whichever bytes a write took.
abbrev pub CountsFit : Type 0
CountsFit = (g : Settings) (t : Trace) (s : State) (e : SideId) → Reaches g t s → DirectionFits g t s.plain e
