use Rattle.std.proofs.Common.{arith, inl, inr, ◌*◌, ◌/◌, ◌%◌}
use Rattle.std.proofs.lemmas.Bool.{cases_lt}
use Rattle.number_set.specs.Words.{has_number}
use Rattle.number_set.proofs.BitLemmas.{some_bit}
use Rattle.number_set.proofs.NextLemmas.{greatest_in_word, none_down}
use Rattle.number_set.proofs.TopLemmas.{none_of_own, own_within, own_word}
use Rattle.number_set.proofs.levels.Levels.previous_own.Goals as goal

pub returns-in-Some : goal.returns-in-Some
returns-in-Some c =
    greatest_in_word _ c.word.result (c.args.before / 64) c.word.ensures.bits c.args.before (c.args.before % 64) c.in-Some.bit
    (omega arith) (λ i from below. absurd (omega (arith, from, below))) (omega arith) c.in-Some.ensures

pub returns-in_err-at : goal.returns-in_err-at
returns-in_err-at c =
    let a = c.args.self.now in
    let at = c.args.before / 64 in
    let here = none_down (has_number a.words.items) c.word.result at c.word.ensures.bits c.args.before (c.args.before % 64) 0
    (λ i from below. absurd (omega (arith, from, below))) (λ k _ below. c.in_default.ensures k below) (omega arith) in
    rw c.from_residual.ensures (λ i below. elim (cases_lt i (64 * at)) [
      | inl before ↦ none_of_own a.words.items a.tops.items i (i / 64) a.tops_are (omega arith)
          (c.in_err-at.ensures (i / 64) (omega (arith, before)))
      | inr inside ↦ here i (omega (arith, inside)) below
    ])

pub returns-in_err-bit : goal.returns-in_err-bit
returns-in_err-bit c =
    let a = c.args.self.now in
    let some = own_word a.words.items a.tops.items c.in_ok-at.at c.word-2.result a.tops_are c.word-2.ensures.value
    c.in_ok-at.ensures.passes in
    absurd (some_bit c.word-2.result some (omega arith) c.in_err-bit.ensures)

pub overflow_mul-result-2 : goal.overflow_mul-result-2
overflow_mul-result-2 c =
    let a = c.args.self.now in
    let within = own_within a.words.items a.tops.items c.in_ok-at.at a.tops_are c.in_ok-at.ensures.passes in
    let few = a.few in
    omega (arith, within, few)

pub returns : goal.returns
returns c =
    let a = c.args.self.now in
    let at = c.args.before / 64 in
    let found = c.in_ok-at.ensures in
    let low = found.below in
    let here = none_down (has_number a.words.items) c.word.result at c.word.ensures.bits c.args.before (c.args.before % 64) 0
    (λ i from below. absurd (omega (arith, from, below))) (λ k _ below. c.in_default.ensures k below) (omega arith) in
    greatest_in_word (has_number a.words.items) c.word-2.result c.in_ok-at.at c.word-2.ensures.bits c.args.before 64 c.in_ok-bit.bit
    (omega (arith, low))
    (λ i from below. elim (cases_lt i (64 * at)) [
      | inl before ↦ none_of_own a.words.items a.tops.items i (i / 64) a.tops_are (omega arith)
          (found.none_after (i / 64) (omega (arith, from)) (omega (arith, before)))
      | inr inside ↦ here i (omega (arith, inside)) below
    ]) (omega arith) c.in_ok-bit.ensures
