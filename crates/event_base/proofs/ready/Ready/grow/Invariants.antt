-- The places that were there stay.
use Rattle.std.proofs.Common.{◌≡◌, ◌≤◌, ◌-◌, ℕ, length, vec_len}
use Rattle.event_base.specs.Rising.{at}
use Rattle.event_base.proofs.ready.Ready.grow.Given as goal

abbrev pub invariant-loop-self : goal.invariant-loop-self
invariant-loop-self l =
    ((k : ℕ) → at l.self-inside.places.items k ≡ at l.initial.self-inside.places.items k)
    × (length l.initial.self-inside.places.items ≤ length l.self-inside.places.items)
    × (l.self-inside.active ≡ l.initial.self-inside.active) × (l.self-inside.next ≡ l.initial.self-inside.next)

abbrev pub decreases-loop-self : goal.decreases-loop-self
decreases-loop-self l = l.count - vec_len l.self-inside.places
