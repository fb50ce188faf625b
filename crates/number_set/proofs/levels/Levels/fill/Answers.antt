use Rattle.std.proofs.Common.{◌≡◌, ◌∙◌, ap, nat_lt, length, arith}
use Rattle.number_set.proofs.TopLemmas.{filled_tops}
use Rattle.number_set.proofs.levels.Levels.fill.Goals as goal

pub invariant_of-self-clause-tops_are : goal.invariant_of-self-clause-tops_are
invariant_of-self-clause-tops_are c =
    filled_tops c.args.self.now.words.items c.args.self.now.tops.items c.fill_words.new.words.items c.fill_words-2.new.words.items
    c.args.len c.args.self.now.tops_are (omega (arith, c.fill_words.ensures.len)) (omega (arith, c.fill_words-2.ensures.len)) (omega arith)
    (λ n within. c.fill_words.ensures.numbers n (omega (arith, within)))
    (λ n within. c.fill_words-2.ensures.numbers n (omega (arith, within)) ∙ ap (nat_lt n) (let e : c.len.result ≡ length c.args.self.now.words.items = omega (arith, c.len.ensures, c.fill_words.ensures.len) in e))
