use Rattle.std.proofs.Common.{ap, length}
use Rattle.number_set.proofs.TopLemmas.{no_tops}
use Rattle.number_set.proofs.levels.Levels.new.Goals as goal

pub invariant_of-result-clause-tops_are : goal.invariant_of-result-clause-tops_are
invariant_of-result-clause-tops_are c = no_tops _ _ (ap length c.new.ensures.items) (ap length c.new-2.ensures.items)
