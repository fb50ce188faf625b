use Rattle.number_set.proofs.NextLemmas.{either-bits}
use Rattle.number_set.proofs.words.either_at.Goals as goal

pub returns : goal.returns
returns c =
    let a = c.args in
    either-bits a.first.now a.second.now a.third.now a.fourth.now a.at c.word_at.result c.word_at-2.result c.word_at-3.result
    c.word_at-4.result c.word_at.ensures c.word_at-2.ensures c.word_at-3.ensures c.word_at-4.ensures
