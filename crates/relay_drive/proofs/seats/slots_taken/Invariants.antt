use Rattle.std.proofs.Common.{◌≡◌, ◌++◌, drop}
use Rattle.relay_drive.specs.Seats.{slots_taken}
use Rattle.relay_drive.proofs.seats.slots_taken.Given as goal

abbrev pub invariant-loop-slot : goal.invariant-loop-slot
invariant-loop-slot g l = l.taken.items ++ slots_taken (drop l.slot-index l.hooks) ≡ slots_taken l.hooks
