use Rattle.std.proofs.Common.{◌≡◌, ℕ, ◌+◌, ◌*◌, ◌<◌, ◌≤◌, false}
use Rattle.number_set.specs.Words.{has_number}
use Rattle.number_set.proofs.words.previous_own.Given as goal

abbrev pub invariant-loop-bit : goal.invariant-loop-bit
invariant-loop-bit l =
    (l.place ≤ 64) × (64 * l.at + l.place ≤ l.before)
    × ((i : ℕ) → 64 * l.at + l.place ≤ i → i < l.before → has_number l.words i ≡ false)

abbrev pub decreases-loop-bit : goal.decreases-loop-bit
decreases-loop-bit l = l.at
