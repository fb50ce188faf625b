-- Which events have a deadline, and which of them come due first.
use Rattle.std.specs.Prelude.{◌≡◌, ℕ, ◌<◌, ◌≤◌, if◌then◌else◌, nat_le, List, Option, Some, None}
use Rattle.std.specs.Option.{option_map, option_and_then}
use Rattle.event_base.specs.Rising.{at, Rises}

-- a deadline, and its order number of adding
pub record Moment : Type 0 where
  pub deadline : ℕ
  pub order : ℕ

-- the deadline of each event that has one, by the number of the event, and the last order number of adding, or 0, and
-- the delays that were registered
pub record DeadlinesValue : Type 0 where
  pub moments : List (Option Moment)
  pub last : ℕ
  pub delays : List ℕ

-- a moment comes before another: its deadline is less, or it is the same and was added before
abbrev pub IsSooner : Moment → Moment → Type 0
IsSooner m n = (m.deadline ≤ n.deadline) × (m.deadline ≡ n.deadline → m.order < n.order)

abbrev pub deadlines : List (Option Moment) → ℕ → Option ℕ
deadlines moments k = option_map (λ m. m.deadline) (at moments k)

-- a moment whose deadline is at most this time
abbrev pub if_due : ℕ → Option Moment → Option Moment
if_due time None = None
if_due time (Some m) = if nat_le m.deadline time then Some m else None

-- the moments that are due at a time
abbrev pub due_at : ℕ → List (Option Moment) → ℕ → Option Moment
due_at time moments k = if_due time (at moments k)

-- the list has the number of each event that is due, once, by deadline and then by the order of adding
abbrev pub IsDueOrder : ℕ → List (Option Moment) → List ℕ → Type 0
IsDueOrder time moments ks = Rises IsSooner ks (due_at time moments)
