use Rattle.std.proofs.Common.{arith}
use Rattle.number_set.specs.Words.{has_number}
use Rattle.number_set.proofs.NextLemmas.{greatest_in_word, none_down, own-bits}
use Rattle.number_set.proofs.WordLemmas.{has_number_past}
use Rattle.number_set.proofs.words.previous_own.Goals as goal

pub loop-bit-init : goal.loop-bit-init
loop-bit-init c = (
  omega arith,
  omega arith,
  λ i reached below. has_number_past c.args.words.now i (omega (arith, reached, below)),
)

pub returns-in-Some : goal.returns-in-Some
returns-in-Some c =
    let so_far = c.loop-bit.invariant in
    let bits = own-bits c.args.words.now c.loop-bit.at c.word_at.result c.word_at.ensures in
    greatest_in_word (has_number c.args.words.now) c.word_at.result c.loop-bit.at bits c.args.before c.loop-bit.place c.in-Some.bit so_far.1
    so_far.2 so_far.0 c.in-Some.ensures

pub returns-then-at-eq0 : goal.returns-then-at-eq0
returns-then-at-eq0 c =
    let so_far = c.loop-bit.invariant in
    let bits = own-bits c.args.words.now c.loop-bit.at c.word_at.result c.word_at.ensures in
    let none = none_down (has_number c.args.words.now) c.word_at.result c.loop-bit.at bits c.args.before c.loop-bit.place 0 so_far.2
    (λ k _ below. c.in_default.ensures k below) so_far.0 in
    λ i below. none i (omega arith) below

pub loop-bit-preserved : goal.loop-bit-preserved
loop-bit-preserved c =
    let so_far = c.loop-bit.invariant in
    let bits = own-bits c.args.words.now c.loop-bit.at c.word_at.result c.word_at.ensures in
    let none = none_down (has_number c.args.words.now) c.word_at.result c.loop-bit.at bits c.args.before c.loop-bit.place 0 so_far.2
    (λ k _ below. c.in_default.ensures k below) so_far.0 in
    (omega arith, omega arith, λ i reached below. none i (omega arith) below)
