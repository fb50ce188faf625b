use Rattle.std.proofs.Common.{◌≡◌, ◌++◌, take, drop, map}
use Rattle.library_uses.specs.OwnPort.{marked}
use Rattle.library_uses.proofs.own_port.mark_all.Given as goal

abbrev pub invariant-loop-want : goal.invariant-loop-want
invariant-loop-want l = l.wants ≡ map marked (take l.want-index l.initial.wants) ++ drop l.want-index l.initial.wants
