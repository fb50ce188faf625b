-- What a contract sees of what waits in a relay.
use Rattle.std.specs.Prelude.{◌≡◌, ℕ, Bool, false, nat_le, nat_lt, List, ◌∷◌, filter, length, slice_index_or}
use Rattle.ev_types.specs.declared.side.SideId.{SideId}
use Rattle.ev_types.specs.Sides.{number}
use Rattle.relay_model.specs.Due.{Due, Reason}
use Rattle.relay_model.specs.Plain.{Timer, sides_where}

-- the sides that have a hook, in number order; the model's pending entries; what is left to fire; and the model's timers
pub record WaitsValue : Type 0 where
  pub hooks : List SideId
  pub due : List Due
  pub batch : List Reason
  pub timers : List Timer

-- the sides that have a hook, where it stands by number which have one
abbrev pub hooks_of : List Bool → List SideId
hooks_of hooked = sides_where (λ e. slice_index_or hooked (number e) false) (length hooked)

-- the timers that are due at a moment, and those that are not
abbrev pub due_by : ℕ → List Timer → List Timer
due_by now timers = filter (λ x. nat_le x.deadline now) timers

abbrev pub due_after : ℕ → List Timer → List Timer
due_after now timers = filter (λ x. nat_lt now x.deadline) timers

-- the first of the timers that are due is of this side, and the others are still there
abbrev pub IsFirstDue : ℕ → SideId → List Timer → List Timer → Type 0
IsFirstDue now e old new = (deadline : ℕ) × (due_by now old ≡ record { side = e; deadline = deadline } ∷ due_by now new)
