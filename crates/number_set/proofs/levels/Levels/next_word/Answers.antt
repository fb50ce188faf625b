use Rattle.std.proofs.Common.{◌≡◌, ◌∙◌, sym, ap, arith, inl, inr, ◌-◌, ◌+◌, ◌*◌, ◌/◌, ◌^◌, ◌<◌}
use Rattle.std.proofs.lemmas.Bool.{cases_lt}
use Rattle.number_set.specs.Next.{in_either}
use Rattle.number_set.specs.Words.{has_number, is_set}
use Rattle.number_set.proofs.TopLemmas.{none_of_word, within_words}
use Rattle.number_set.proofs.WordLemmas.{is_set_zero}
use Rattle.number_set.proofs.levels.Levels.next_word.Goals as goal

pub returns-then-word-ne0 : goal.returns-then-word-ne0
returns-then-word-ne0 c =
    let a = c.args.a.0.now in
    let b = c.args.a.1.now in
    let d = c.args.b.0.now in
    let e = c.args.b.1.now in
    let reached = c.in-Some.ensures.reached in
    let begun = c.loop-next.invariant.0 in
    let within = within_words a.words.items b.words.items d.words.items e.words.items a.tops.items b.tops.items d.tops.items e.tops.items
    a.tops_are b.tops_are d.tops_are e.tops_are c.in-Some.next c.in-Some.ensures.passes (2 ^ 58) a.few d.few in
    record {
      reached = omega (arith, reached, begun);
      small = within;
      some = omega (arith, c.if-word-ne0.true);
      bits = c.either_at-word.ensures;
      none_before = λ n from below. elim (cases_lt n (64 * c.loop-next.at)) [
        | inl before ↦ c.loop-next.invariant.1 n from before
        | inr behind ↦ none_of_word a.words.items b.words.items d.words.items e.words.items a.tops.items b.tops.items d.tops.items e.tops.items
            a.tops_are b.tops_are d.tops_are e.tops_are n (n / 64) (omega arith)
            (c.in-Some.ensures.none_before (n / 64) (omega (arith, behind)) (omega (arith, below)))
      ];
    }

pub loop-next-preserved : goal.loop-next-preserved
loop-next-preserved c =
    let a = c.args.a.0.now in
    let b = c.args.a.1.now in
    let d = c.args.b.0.now in
    let e = c.args.b.1.now in
    let reached = c.in-Some.ensures.reached in
    let begun = c.loop-next.invariant.0 in (
      omega (arith, reached, begun),
      λ n from below. elim (cases_lt n (64 * c.loop-next.at)) [
        | inl before ↦ c.loop-next.invariant.1 n from before
        | inr behind ↦ elim (cases_lt n (64 * c.in-Some.next)) [
          | inl inside ↦ none_of_word a.words.items b.words.items d.words.items e.words.items a.tops.items b.tops.items d.tops.items e.tops.items
              a.tops_are b.tops_are d.tops_are e.tops_are n (n / 64) (omega arith)
              (c.in-Some.ensures.none_before (n / 64) (omega (arith, behind)) (omega (arith, inside)))
          | inr here ↦
              let k = n - 64 * c.in-Some.next in
              let small : k < 64 = omega (arith, below, here) in
              let at : 64 * c.in-Some.next + k ≡ n = omega (arith, here) in
              ap (in_either (has_number a.words.items) (has_number b.words.items) (has_number d.words.items) (has_number e.words.items)) (sym at)
              ∙ sym (c.either_at-word.ensures k small) ∙ ap (λ w. is_set w k) c.if-word-ne0.false ∙ is_set_zero k
        ]
      ],
    )

pub returns : goal.returns
returns c =
    let a = c.args.a.0.now in
    let b = c.args.a.1.now in
    let d = c.args.b.0.now in
    let e = c.args.b.1.now in
    λ n from. elim (cases_lt n (64 * c.loop-next.at)) [
      | inl before ↦ c.loop-next.invariant.1 n from before
      | inr behind ↦ none_of_word a.words.items b.words.items d.words.items e.words.items a.tops.items b.tops.items d.tops.items e.tops.items
          a.tops_are b.tops_are d.tops_are e.tops_are n (n / 64) (omega arith)
          (c.in_default.ensures (n / 64) (omega (arith, behind)))
    ]
