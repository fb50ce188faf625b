-- The moments that were there stay.
use Rattle.std.proofs.Common.{◌≡◌, ◌≤◌, ◌-◌, ℕ, length, vec_len}
use Rattle.event_base.specs.Rising.{at}
use Rattle.event_base.proofs.deadlines.Deadlines.grow.Given as goal

abbrev pub invariant-loop-self : goal.invariant-loop-self
invariant-loop-self l =
    ((k : ℕ) → at l.self-inside.waiting.items k ≡ at l.initial.self-inside.waiting.items k)
    × (length l.initial.self-inside.waiting.items ≤ length l.self-inside.waiting.items)
    × (l.self-inside.timers ≡ l.initial.self-inside.timers)

abbrev pub decreases-loop-self : goal.decreases-loop-self
decreases-loop-self l = l.count - vec_len l.self-inside.waiting
