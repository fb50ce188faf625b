-- What is left of the batch goes, from the run so far on, where all of it goes.
use Rattle.std.proofs.Common.{◌≡◌, ◌+◌, true, cond, Ok}
use Rattle.base_mode.specs.Run.{Outcome}
use Rattle.base_mode.specs.Turned.{owed, IsClosed, whole_batch}
use Rattle.base_mode.proofs.run.Run.fire_all.Given as goal

abbrev pub invariant-loop-fires : goal.invariant-loop-fires
invariant-loop-fires l = record {
  closed : l.fires ≡ true → IsClosed l.self.base;
  left : cond {A = Outcome} l.fires (whole_batch l.self) (Ok l.self) ≡ whole_batch l.fn.self;
}

-- what the batch owes, and one while it is not known to be over
abbrev pub decreases-loop-fires : goal.decreases-loop-fires
decreases-loop-fires l = cond l.fires (owed l.self.base + 1) 0
