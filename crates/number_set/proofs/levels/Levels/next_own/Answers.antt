use Rattle.std.proofs.Common.{arith, inl, inr, ◌+◌, ◌*◌, ◌/◌, ◌%◌}
use Rattle.std.proofs.lemmas.Bool.{cases_lt}
use Rattle.number_set.proofs.NextLemmas.{least_in_word, none_up}
use Rattle.number_set.proofs.TopLemmas.{none_of_own, own_within, own_word}
use Rattle.number_set.proofs.levels.Levels.next_own.Goals as goal

pub returns-in-Some : goal.returns-in-Some
returns-in-Some c =
    least_in_word _ c.word.result (c.args.from / 64) c.word.ensures.bits c.args.from (c.args.from % 64) c.in-Some.bit (omega arith)
    (λ i from below. absurd (omega (arith, from, below))) c.in-Some.ensures.within c.in-Some.ensures.next

pub returns-in_err-at : goal.returns-in_err-at
returns-in_err-at c =
    let a = c.args.self.now in
    let at = c.args.from / 64 in
    let here = none_up _ c.word.result at c.word.ensures.bits c.args.from (c.args.from % 64) 64
    (λ i from below. absurd (omega (arith, from, below))) (λ k reached _. c.in_default.ensures.next k reached) (omega arith) in
    rw c.from_residual.ensures (λ i from. elim (cases_lt i (64 * at + 64)) [
      | inl inside ↦ here i from inside
      | inr behind ↦ none_of_own a.words.items a.tops.items i (i / 64) a.tops_are (omega arith)
          (c.in_err-at.ensures (i / 64) (omega (arith, behind)))
    ])

pub without_lowest-bit-requires : goal.without_lowest-bit-requires
without_lowest-bit-requires c =
    let a = c.args.self.now in
    own_word a.words.items a.tops.items c.in_ok-at.at c.word-2.result a.tops_are c.word-2.ensures.value c.in_ok-at.ensures.passes

pub overflow_mul-result-2 : goal.overflow_mul-result-2
overflow_mul-result-2 c =
    let a = c.args.self.now in
    let within = own_within a.words.items a.tops.items c.in_ok-at.at a.tops_are c.in_ok-at.ensures.passes in
    let few = a.few in
    omega (arith, within, few)

pub returns : goal.returns
returns c =
    let a = c.args.self.now in
    let at = c.args.from / 64 in
    let next = c.in_ok-at.ensures in
    let reached = next.reached in
    let here = none_up _ c.word.result at c.word.ensures.bits c.args.from (c.args.from % 64) 64
    (λ i from below. absurd (omega (arith, from, below))) (λ k reached _. c.in_default.ensures.next k reached) (omega arith) in
    least_in_word _ c.word-2.result c.in_ok-at.at c.word-2.ensures.bits c.args.from 0 c.without_lowest-bit.result.0 (omega (arith, reached))
    (λ i from below. elim (cases_lt i (64 * at + 64)) [
      | inl inside ↦ here i from inside
      | inr behind ↦ none_of_own a.words.items a.tops.items i (i / 64) a.tops_are (omega arith)
          (next.none_before (i / 64) (omega (arith, behind)) (omega (arith, below)))
    ]) c.without_lowest-bit.ensures.within c.without_lowest-bit.ensures.least
