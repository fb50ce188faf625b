use Rattle.std.proofs.Common.{◌≡◌}
use Rattle.layer_bench.proofs.due.schedule_all.Given as goal

abbrev pub invariant-loop-owner : goal.invariant-loop-owner
invariant-loop-owner l = l.due.batch ≡ l.initial.due.batch
