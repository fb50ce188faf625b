-- A trace with an event behind it that can't stand there. Which there are stands in WrongRows and WrongEdges.
use Rattle.ev_types.specs.Trace.{Event, Trace}
use Rattle.relay_model.specs.Settings.{Settings}
use Rattle.relay_rows.specs.Laws.{IsRefused}

pub record Wrong : Type 0 where
  pub settings : Settings
  pub before : Trace  -- what can stand
  pub event : Event  -- what can't stand behind it

-- the event can't stand there, and all before it can
abbrev pub IsWrong : Wrong → Type 0
IsWrong x = IsRefused x.settings x.before x.event

abbrev pub wrong : Settings → Trace → Event → Wrong
wrong g t e = record { settings = g; before = t; event = e }
