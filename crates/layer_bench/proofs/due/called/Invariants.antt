use Rattle.std.proofs.Common.{length}
use Rattle.layer_bench.proofs.due.called.Given as goal

abbrev pub decreases-loop-calls : goal.decreases-loop-calls
decreases-loop-calls l = length l.due.batch
