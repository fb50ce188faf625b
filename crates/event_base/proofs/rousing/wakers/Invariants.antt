-- Those so far and those that are left are all.
use Rattle.std.proofs.Common.{◌≡◌, ◌++◌, drop}
use Rattle.event_base.specs.Rousing.{wakers}
use Rattle.event_base.proofs.rousing.wakers.Given as goal

abbrev pub invariant-loop-number : goal.invariant-loop-number
invariant-loop-number l = l.waking.items ++ wakers l.events (drop l.number-index l.numbers) ≡ wakers l.events l.numbers
