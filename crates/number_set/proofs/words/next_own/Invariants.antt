use Rattle.std.proofs.Common.{◌≡◌, ℕ, ◌+◌, ◌-◌, ◌*◌, ◌<◌, ◌≤◌, false, length}
use Rattle.number_set.specs.Words.{has_number}
use Rattle.number_set.proofs.words.next_own.Given as goal

abbrev pub invariant-loop-at : goal.invariant-loop-at
invariant-loop-at l =
    (l.place < 64) × (l.from ≤ 64 * l.at + l.place)
    × ((i : ℕ) → l.from ≤ i → i < 64 * l.at + l.place → has_number l.words i ≡ false)

abbrev pub decreases-loop-at : goal.decreases-loop-at
decreases-loop-at l = length l.words - l.at
