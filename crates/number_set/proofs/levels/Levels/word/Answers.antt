use Rattle.std.proofs.Common.{◌∙◌, ap, get_or, List, ℕ}
use Rattle.number_set.proofs.NextLemmas.{own-bits}
use Rattle.number_set.proofs.levels.Levels.word.Goals as goal

pub returns-clause-bits : goal.returns-clause-bits
returns-clause-bits c =
    own-bits c.args.self.now.words.items c.args.at c.word_at.result
    (c.word_at.ensures ∙ ap (λ (words : List ℕ). get_or words c.args.at 0) c.deref.ensures.value)
