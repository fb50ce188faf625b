-- What passing leaves between two turns.
use Rattle.std.specs.Prelude.{◌≡◌, ◌<◌, true}
use Rattle.ev_types.specs.declared.side.SideId.{SideId}
use Rattle.ev_types.specs.Sides.{peer}
use Rattle.ev_types.specs.Trace.{Trace}
use Rattle.relay_model.specs.Trace.{bytes_read}
use Rattle.relay_model.specs.Settings.{Settings, HoldsSome}
use Rattle.relay_model.specs.Plain.{Plain, side_at, flow_at, is_live}
use Rattle.relay_model.specs.Rooms.{read_filter, write_filter, hold_mark}
use Rattle.relay_model.specs.PassLaws.{IsPassed}
use Rattle.relay_model.specs.Stages.{Stage, at}
use Rattle.relay_model.specs.Turn.{Reaches}

-- The direction that begins at a side has its first three buffers empty where it isn't held; where it is, more than half of the
-- hold mark waits in its raw output. Where its side has ended and it isn't held, both of its filters are finished.
abbrev pub DirectionPassed : Settings → Trace → Plain → SideId → Type 0
DirectionPassed g t s e =
    IsPassed (read_filter g s e) (write_filter g s (peer e)) (bytes_read e t) (side_at s e).ended (hold_mark g s (peer e)) (flow_at s e)

-- Between two turns so it is between any two live sides: whichever of them met a bad place was freed.
abbrev pub AllIsPassed : Type 0
AllIsPassed = (g : Settings) (t : Trace) (s : Plain) (e : SideId) → HoldsSome g → Reaches g t (at Stage.Between s) → e.link < s.opened →
    is_live s e ≡ true → is_live s (peer e) ≡ true → DirectionPassed g t s e
