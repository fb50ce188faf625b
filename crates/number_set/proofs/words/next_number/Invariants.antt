use Rattle.std.proofs.Common.{◌≡◌, ℕ, ◌+◌, ◌-◌, ◌*◌, ◌<◌, ◌≤◌, false}
use Rattle.number_set.specs.Next.{in_either}
use Rattle.number_set.specs.Words.{has_number}
use Rattle.number_set.proofs.words.next_number.Given as goal

abbrev pub invariant-loop-at : goal.invariant-loop-at
invariant-loop-at l =
    (l.place < 64) × (l.from ≤ 64 * l.at + l.place)
    × ((i : ℕ) → l.from ≤ i → i < 64 * l.at + l.place
    → in_either (has_number l.first) (has_number l.second) (has_number l.third) (has_number l.fourth) i ≡ false)

abbrev pub decreases-loop-at : goal.decreases-loop-at
decreases-loop-at l = l.end - l.at
