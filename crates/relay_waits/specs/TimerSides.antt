-- The timers that wait under a key, as the relay's model has them by side: the key is the side's number.
use Rattle.std.specs.Prelude.{List, map}
use Rattle.min_timer.specs.declared.timer.Timer as by_number
use Rattle.relay_model.specs.Plain.{Timer}
use Rattle.relay_waits.specs.Numbered.{side_numbered}

abbrev pub timer_of_side : by_number.Timer → Timer
timer_of_side t = record { side = side_numbered t.key; deadline = t.deadline }

-- the model's timers
abbrev pub timers_of : List by_number.Timer → List Timer
timers_of ts = map timer_of_side ts
