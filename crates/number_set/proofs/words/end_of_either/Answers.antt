use Rattle.std.proofs.Common.{arith}
use Rattle.number_set.proofs.WordLemmas.{either_past}
use Rattle.number_set.proofs.words.end_of_either.Goals as goal

pub returns-clause-none : goal.returns-clause-none
returns-clause-none c =
    let a = c.args in
    λ n past. either_past a.first.now a.second.now a.third.now a.fourth.now n (omega arith) (omega arith)
