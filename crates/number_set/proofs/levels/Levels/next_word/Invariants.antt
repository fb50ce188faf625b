use Rattle.std.proofs.Common.{◌≡◌, ℕ, ◌-◌, ◌*◌, ◌<◌, ◌≤◌, false, length}
use Rattle.std.specs.Prelude.{max}
use Rattle.number_set.specs.Next.{in_either}
use Rattle.number_set.specs.Words.{has_number}
use Rattle.number_set.proofs.levels.Levels.next_word.Given as goal

abbrev pub invariant-loop-next : goal.invariant-loop-next
invariant-loop-next l =
    (l.from ≤ l.at)
    × ((i : ℕ) → 64 * l.from ≤ i → i < 64 * l.at
    → in_either (has_number l.a.0.now.words.items) (has_number l.a.1.now.words.items) (has_number l.b.0.now.words.items)
    (has_number l.b.1.now.words.items) i ≡ false)

abbrev pub decreases-loop-next : goal.decreases-loop-next
decreases-loop-next l = max (length l.a.0.now.words.items) (length l.b.0.now.words.items) - l.at
