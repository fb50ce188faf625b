use Rattle.std.proofs.Common.{◌≡◌, ◌∙◌, sym, ap, arith, inl, inr, ◌-◌, ◌+◌, ◌*◌, ◌/◌, ◌^◌, ◌<◌}
use Rattle.std.proofs.lemmas.Bool.{cases_lt}
use Rattle.number_set.specs.Next.{in_either}
use Rattle.number_set.specs.Words.{has_number, is_set}
use Rattle.number_set.proofs.TopLemmas.{none_of_word, within_words}
use Rattle.number_set.proofs.WordLemmas.{is_set_zero}
use Rattle.number_set.proofs.levels.Levels.previous_word.Goals as goal

pub returns-then-word-ne0 : goal.returns-then-word-ne0
returns-then-word-ne0 c =
    let a = c.args.a.0.now in
    let b = c.args.a.1.now in
    let d = c.args.b.0.now in
    let e = c.args.b.1.now in
    let below = c.in-Some.ensures.below in
    let begun = c.loop-at.invariant.0 in
    let within = within_words a.words.items b.words.items d.words.items e.words.items a.tops.items b.tops.items d.tops.items e.tops.items
    a.tops_are b.tops_are d.tops_are e.tops_are c.in-Some.at c.in-Some.ensures.passes (2 ^ 58) a.few d.few in
    record {
      below = omega (arith, below, begun);
      small = within;
      some = omega (arith, c.if-word-ne0.true);
      bits = c.either_at-word.ensures;
      none_after = λ n from before. elim (cases_lt n (64 * c.loop-at.end)) [
        | inl inside ↦ none_of_word a.words.items b.words.items d.words.items e.words.items a.tops.items b.tops.items d.tops.items e.tops.items
            a.tops_are b.tops_are d.tops_are e.tops_are n (n / 64) (omega arith)
            (c.in-Some.ensures.none_after (n / 64) (omega (arith, from)) (omega (arith, inside)))
        | inr behind ↦ c.loop-at.invariant.1 n behind before
      ];
    }

pub loop-at-preserved : goal.loop-at-preserved
loop-at-preserved c =
    let a = c.args.a.0.now in
    let b = c.args.a.1.now in
    let d = c.args.b.0.now in
    let e = c.args.b.1.now in
    let below = c.in-Some.ensures.below in
    let begun = c.loop-at.invariant.0 in (
      omega (arith, below, begun),
      λ n from before. elim (cases_lt n (64 * c.loop-at.end)) [
        | inl inside ↦ elim (cases_lt n (64 * c.in-Some.at + 64)) [
          | inl here ↦
              let k = n - 64 * c.in-Some.at in
              let small : k < 64 = omega (arith, from, here) in
              let at : 64 * c.in-Some.at + k ≡ n = omega (arith, from) in
              ap (in_either (has_number a.words.items) (has_number b.words.items) (has_number d.words.items) (has_number e.words.items)) (sym at)
              ∙ sym (c.either_at-word.ensures k small) ∙ ap (λ w. is_set w k) c.if-word-ne0.false ∙ is_set_zero k
          | inr after ↦ none_of_word a.words.items b.words.items d.words.items e.words.items a.tops.items b.tops.items d.tops.items e.tops.items
              a.tops_are b.tops_are d.tops_are e.tops_are n (n / 64) (omega arith)
              (c.in-Some.ensures.none_after (n / 64) (omega (arith, after)) (omega (arith, inside)))
        ]
        | inr behind ↦ c.loop-at.invariant.1 n behind before
      ],
    )

pub returns : goal.returns
returns c =
    let a = c.args.a.0.now in
    let b = c.args.a.1.now in
    let d = c.args.b.0.now in
    let e = c.args.b.1.now in
    λ n before. elim (cases_lt n (64 * c.loop-at.end)) [
      | inl inside ↦ none_of_word a.words.items b.words.items d.words.items e.words.items a.tops.items b.tops.items d.tops.items e.tops.items
          a.tops_are b.tops_are d.tops_are e.tops_are n (n / 64) (omega arith)
          (c.in_default.ensures (n / 64) (omega (arith, inside)))
      | inr behind ↦ c.loop-at.invariant.1 n behind before
    ]
