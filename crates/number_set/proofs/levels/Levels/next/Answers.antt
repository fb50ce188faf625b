use Rattle.std.proofs.Common.{arith, inl, inr, ◌+◌, ◌*◌, ◌/◌, ◌%◌}
use Rattle.std.proofs.lemmas.Bool.{cases_lt}
use Rattle.number_set.proofs.NextLemmas.{least_in_word, none_up}
use Rattle.number_set.proofs.levels.Levels.next.Goals as goal

pub returns-in-Some : goal.returns-in-Some
returns-in-Some c =
    least_in_word _ c.either_at.result (c.args.from / 64) c.either_at.ensures c.args.from (c.args.from % 64) c.in-Some.bit (omega arith)
    (λ i from below. absurd (omega (arith, from, below))) c.in-Some.ensures.within c.in-Some.ensures.next

pub returns-in_err-at : goal.returns-in_err-at
returns-in_err-at c =
    let at = c.args.from / 64 in
    let here = none_up _ c.either_at.result at c.either_at.ensures c.args.from (c.args.from % 64) 64
    (λ i from below. absurd (omega (arith, from, below))) (λ k reached _. c.in_default.ensures.next k reached) (omega arith) in
    rw c.from_residual.ensures (λ i from. elim (cases_lt i (64 * at + 64)) [
      | inl inside ↦ here i from inside
      | inr behind ↦ c.in_err-at.ensures i (omega (arith, behind))
    ])

pub returns : goal.returns
returns c =
    let at = c.args.from / 64 in
    let word = c.in_ok-at.ensures in
    let reached = word.reached in
    let here = none_up _ c.either_at.result at c.either_at.ensures c.args.from (c.args.from % 64) 64
    (λ i from below. absurd (omega (arith, from, below))) (λ k reached _. c.in_default.ensures.next k reached) (omega arith) in
    least_in_word _ c.in_ok-at.word c.in_ok-at.at word.bits c.args.from 0 c.without_lowest-bit.result.0 (omega (arith, reached))
    (λ i from below. elim (cases_lt i (64 * at + 64)) [
      | inl inside ↦ here i from inside
      | inr behind ↦ word.none_before i (omega (arith, behind)) (omega (arith, below))
    ]) c.without_lowest-bit.ensures.within c.without_lowest-bit.ensures.least
