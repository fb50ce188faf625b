use Rattle.std.proofs.Common.{arith}
use Rattle.number_set.proofs.NextLemmas.{greatest_in_word, none_down}
use Rattle.number_set.proofs.words.previous_number.Goals as goal

pub returns-in-Some : goal.returns-in-Some
returns-in-Some c =
    let so_far = c.loop-bit.invariant in
    greatest_in_word _ c.either_at.result c.loop-bit.at c.either_at.ensures c.args.before c.loop-bit.place c.in-Some.bit so_far.1 so_far.2
    so_far.0 c.in-Some.ensures

pub returns-then-at-eq0 : goal.returns-then-at-eq0
returns-then-at-eq0 c =
    let so_far = c.loop-bit.invariant in
    let none = none_down _ c.either_at.result c.loop-bit.at c.either_at.ensures c.args.before c.loop-bit.place 0 so_far.2
    (λ k _ below. c.in_default.ensures k below) so_far.0 in
    λ i below. none i (omega arith) below

pub loop-bit-preserved : goal.loop-bit-preserved
loop-bit-preserved c =
    let so_far = c.loop-bit.invariant in
    let none = none_down _ c.either_at.result c.loop-bit.at c.either_at.ensures c.args.before c.loop-bit.place 0 so_far.2
    (λ k _ below. c.in_default.ensures k below) so_far.0 in
    (omega arith, omega arith, λ i reached below. none i (omega arith) below)
