use Rattle.std.proofs.Common.{arith}
use Rattle.number_set.proofs.NextLemmas.{least_in_word, none_up}
use Rattle.number_set.proofs.words.next_number.Goals as goal

pub returns-in-Some : goal.returns-in-Some
returns-in-Some c =
    let so_far = c.loop-at.invariant in
    least_in_word _ c.either_at.result c.loop-at.at c.either_at.ensures c.args.from c.loop-at.place c.in-Some.bit so_far.1 so_far.2
    c.in-Some.ensures.within c.in-Some.ensures.next

pub loop-at-preserved : goal.loop-at-preserved
loop-at-preserved c =
    let so_far = c.loop-at.invariant in
    let none = none_up _ c.either_at.result c.loop-at.at c.either_at.ensures c.args.from c.loop-at.place 64 so_far.2
    (λ k reached _. c.in_default.ensures.next k reached) (omega arith) in
    (omega arith, omega arith, λ i reached below. none i reached (omega arith))
