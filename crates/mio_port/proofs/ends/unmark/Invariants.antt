use Rattle.std.proofs.Common.{◌≡◌, ◌++◌, take, drop, map}
use Rattle.mio_port.specs.EndPlaces.{unmarked}
use Rattle.mio_port.proofs.ends.unmark.Given as goal

abbrev pub invariant-loop-want : goal.invariant-loop-want
invariant-loop-want l = l.wants ≡ map unmarked (take l.want-index l.initial.wants) ++ drop l.want-index l.initial.wants
