-- How many bytes a direction may hold: what the marks of its two sides allow.
use Rattle.std.specs.Prelude.{ℕ, ◌+◌, ◌*◌, ◌<◌, ◌≤◌, List, length}
use Rattle.ev_types.specs.declared.side.SideId.{SideId}
use Rattle.ev_types.specs.Sides.{peer}
use Rattle.ev_types.specs.Trace.{Trace}
use Rattle.relay_model.specs.Trace.{bytes_read}
use Rattle.filter_model.specs.Filter.{Filter}
use Rattle.relay_model.specs.Flow.{Flow, raw_input, input, output, raw_output}
use Rattle.relay_model.specs.Settings.{Settings, HasNoHooks}
use Rattle.relay_model.specs.Plain.{Plain, flow_at}
use Rattle.relay_model.specs.Rooms.{read_filter, write_filter, read_mark, hold_mark}
use Rattle.relay_model.specs.Stages.{State}
use Rattle.relay_model.specs.Turn.{Reaches}

-- The raw input holds no more than the read mark, the input and the output one more, as a filter passes its mark by one byte at
-- most; the raw output holds no more than the hold mark and one. So all four hold no more than these together.
pub record BuffersWithin (r w : Filter) (read : List ℕ) (mark hold : ℕ) (f : Flow) : Type 0 where
  pub all :
      length (raw_input read f) + length (input r read f) + length (output r read f) + length (raw_output r w read f)
      ≤ mark + 2 * (mark + 1) + hold + 1
  pub raw_input : length (raw_input read f) ≤ mark
  pub input : length (input r read f) ≤ mark + 1
  pub output : length (output r read f) ≤ mark + 1
  pub raw_output : length (raw_output r w read f) ≤ hold + 1

-- So are the buffers of the direction that begins at a side, where reading stops at one mark and the direction is held at another.
abbrev pub DirectionWithin : Settings → Trace → Plain → SideId → ℕ → ℕ → Type 0
DirectionWithin g t s e mark hold = BuffersWithin (read_filter g s e) (write_filter g s (peer e)) (bytes_read e t) mark hold (flow_at s e)

-- With no hook that could ask for other marks, they are so in every state that a trace leads to, and not only between turns.
abbrev pub BuffersAreWithin : Type 0
BuffersAreWithin = (g : Settings) (t : Trace) (s : State) (e : SideId) → HasNoHooks g → Reaches g t s → e.link < s.plain.opened →
    DirectionWithin g t s.plain e (read_mark s.plain e) (hold_mark g s.plain (peer e))
