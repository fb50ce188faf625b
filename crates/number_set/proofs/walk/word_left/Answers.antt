use Rattle.std.proofs.Common.{◌≡◌, ◌∙◌, ap, Option, Some, None, ℕ, ◌+◌, ◌*◌, ◌≤◌, Bool, false}
use Rattle.std.specs.Prelude.{MatchOption}
use Rattle.number_set.specs.Words.{is_set}
use Rattle.number_set.specs.Walks.{IsNextWord}
use Rattle.number_set.specs.WalkView.{IsAt, IsLeft}
use Rattle.number_set.proofs.WordLemmas.{is_set_zero}
use Rattle.number_set.proofs.WalkLemmas.{walk-over, walk-word}
use Rattle.number_set.proofs.walk.word_left.Goals as goal

going_on : (p : ℕ → Bool) (from at rest : ℕ) (result : Option (ℕ × ℕ)) → rest ≡ 0 → IsAt p from at rest
    → MatchOption result ((n : ℕ) → 64 * (at + 1) ≤ n → p n ≡ false) (λ found. IsNextWord p (at + 1) found.0 found.1) → IsLeft p from result
going_on p from at rest None empty here past =
    walk-over p from at rest here (λ k _ _. ap (λ w. is_set w k) empty ∙ is_set_zero k) past
going_on p from at rest (Some found) empty here word =
    (walk-word p from at rest here found.0 found.1 (λ k _ _. ap (λ w. is_set w k) empty ∙ is_set_zero k) word, word.some)

pub returns : goal.returns
returns c = λ from here. going_on _ from c.args.at c.args.rest _ c.if-rest-ne0.false here c.next_word.ensures
