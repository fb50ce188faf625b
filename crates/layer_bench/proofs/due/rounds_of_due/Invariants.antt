use Rattle.std.proofs.Common.{◌≡◌, []}
use Rattle.layer_bench.proofs.due.rounds_of_due.Given as goal

abbrev pub invariant-loop : goal.invariant-loop
invariant-loop l = l.due.batch ≡ []
