use Rattle.number_set.proofs.WordLemmas.{empty_kept_at}
use Rattle.number_set.proofs.set.NumberSet.new.Goals as goal

pub invariant_of-result : goal.invariant_of-result
invariant_of-result c = empty_kept_at c.new.result.words.items c.new.ensures
