-- Those so far and those that are left are all.
use Rattle.std.proofs.Common.{◌≡◌, ◌++◌, drop}
use Rattle.event_base.specs.Fires.{hearing}
use Rattle.event_base.proofs.rousing.hearing.Given as goal

abbrev pub invariant-loop-at : goal.invariant-loop-at
invariant-loop-at l = l.numbers.items ++ hearing l.signal l.at (drop l.at l.events) ≡ hearing l.signal 0 l.events
