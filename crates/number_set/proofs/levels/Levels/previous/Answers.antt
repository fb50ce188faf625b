use Rattle.std.proofs.Common.{arith, inl, inr, ◌*◌, ◌/◌, ◌%◌}
use Rattle.std.proofs.lemmas.Bool.{cases_lt}
use Rattle.number_set.specs.Next.{in_either}
use Rattle.number_set.specs.Words.{has_number}
use Rattle.number_set.proofs.BitLemmas.{some_bit}
use Rattle.number_set.proofs.NextLemmas.{greatest_in_word, none_down}
use Rattle.number_set.proofs.levels.Levels.previous.Goals as goal

pub returns-in-Some : goal.returns-in-Some
returns-in-Some c =
    greatest_in_word _ c.either_at.result (c.args.before / 64) c.either_at.ensures c.args.before (c.args.before % 64) c.in-Some.bit
    (omega arith) (λ i from below. absurd (omega (arith, from, below))) (omega arith) c.in-Some.ensures

pub returns-in_err-at : goal.returns-in_err-at
returns-in_err-at c =
    let at = c.args.before / 64 in
    let here = none_down _ c.either_at.result at c.either_at.ensures c.args.before (c.args.before % 64) 0
    (λ i from below. absurd (omega (arith, from, below))) (λ k _ below. c.in_default.ensures k below) (omega arith) in
    rw c.from_residual.ensures (λ i below. elim (cases_lt i (64 * at)) [
      | inl before ↦ c.in_err-at.ensures i before
      | inr inside ↦ here i (omega (arith, inside)) below
    ])

pub returns-in_err-bit : goal.returns-in_err-bit
returns-in_err-bit c = absurd (some_bit c.in_ok-at.word c.in_ok-at.ensures.some (omega arith) c.in_err-bit.ensures)

pub returns : goal.returns
returns c =
    let at = c.args.before / 64 in
    let word = c.in_ok-at.ensures in
    let low = word.below in
    let p = in_either (has_number c.args.a.0.now.words.items) (has_number c.args.a.1.now.words.items)
    (has_number c.args.b.0.now.words.items) (has_number c.args.b.1.now.words.items) in
    let here = none_down p c.either_at.result at c.either_at.ensures c.args.before (c.args.before % 64) 0
    (λ i from below. absurd (omega (arith, from, below))) (λ k _ below. c.in_default.ensures k below) (omega arith) in
    greatest_in_word p c.in_ok-at.word c.in_ok-at.at word.bits c.args.before 64 c.in_ok-bit.bit (omega (arith, low))
    (λ i from below. elim (cases_lt i (64 * at)) [
      | inl before ↦ word.none_after i (omega (arith, from)) before
      | inr inside ↦ here i (omega (arith, inside)) below
    ]) (omega arith) c.in_ok-bit.ensures
