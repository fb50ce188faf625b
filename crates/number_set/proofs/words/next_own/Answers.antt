use Rattle.std.proofs.Common.{arith, inl, inr, ◌*◌, ◌+◌}
use Rattle.std.proofs.lemmas.Bool.{cases_lt}
use Rattle.number_set.specs.Words.{has_number}
use Rattle.number_set.proofs.NextLemmas.{least_in_word, none_up, own-bits}
use Rattle.number_set.proofs.WordLemmas.{has_number_past}
use Rattle.number_set.proofs.words.next_own.Goals as goal

pub returns-in-Some : goal.returns-in-Some
returns-in-Some c =
    let so_far = c.loop-at.invariant in
    let bits = own-bits c.args.words.now c.loop-at.at c.word_at.result c.word_at.ensures in
    least_in_word (has_number c.args.words.now) c.word_at.result c.loop-at.at bits c.args.from c.loop-at.place c.in-Some.bit so_far.1
    so_far.2 c.in-Some.ensures.within c.in-Some.ensures.next

pub loop-at-preserved : goal.loop-at-preserved
loop-at-preserved c =
    let so_far = c.loop-at.invariant in
    let bits = own-bits c.args.words.now c.loop-at.at c.word_at.result c.word_at.ensures in
    let none = none_up (has_number c.args.words.now) c.word_at.result c.loop-at.at bits c.args.from c.loop-at.place 64 so_far.2
    (λ k reached _. c.in_default.ensures.next k reached) (omega arith) in
    (omega arith, omega arith, λ i reached below. none i reached (omega arith))

pub returns : goal.returns
returns c = λ i reached. elim (cases_lt i (64 * c.loop-at.at + c.loop-at.place)) [
  | inl before ↦ c.loop-at.invariant.2 i reached before
  | inr past ↦ has_number_past c.args.words.now i (omega (arith, past))
]
