use Rattle.std.proofs.Common.{◌≡◌, ℕ, ◌*◌, ◌<◌, ◌≤◌, false}
use Rattle.number_set.specs.Next.{in_either}
use Rattle.number_set.specs.Words.{has_number}
use Rattle.number_set.proofs.levels.Levels.previous_word.Given as goal

abbrev pub invariant-loop-at : goal.invariant-loop-at
invariant-loop-at l =
    (l.end ≤ l.before)
    × ((i : ℕ) → 64 * l.end ≤ i → i < 64 * l.before
    → in_either (has_number l.a.0.now.words.items) (has_number l.a.1.now.words.items) (has_number l.b.0.now.words.items)
    (has_number l.b.1.now.words.items) i ≡ false)

abbrev pub decreases-loop-at : goal.decreases-loop-at
decreases-loop-at l = l.end
