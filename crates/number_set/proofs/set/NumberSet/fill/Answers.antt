use Rattle.std.proofs.Common.{arith}
use Rattle.number_set.proofs.WordLemmas.{filled_kept}
use Rattle.number_set.proofs.set.NumberSet.fill.Goals as goal

pub invariant_of-self : goal.invariant_of-self
invariant_of-self c =
    filled_kept c.self.inside.levels.words.items c.fill.new.self.words.items c.self.inside.len c.self.invariant (omega arith)
    (λ n within. c.fill.ensures.numbers n (omega arith))
