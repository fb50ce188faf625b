use Rattle.std.proofs.Common.{◌≡◌, ◌++◌, take, drop, map}
use Rattle.mio_port.specs.EndPlaces.{marked}
use Rattle.mio_port.proofs.ends.Ends.mark.Given as goal

abbrev pub invariant-loop-want : goal.invariant-loop-want
invariant-loop-want l = l.wants ≡ map (marked l.self.ends.items) (take l.want-index l.initial.wants) ++ drop l.want-index l.initial.wants
