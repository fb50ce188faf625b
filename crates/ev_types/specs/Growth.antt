-- A trace that grows: what a scribe keeps and what a port vouches for, from one moment to a later one.
use Rattle.std.specs.Prelude.{◌≡◌, ⊤, List, ◌++◌, Option, Some, None, MatchOption}
use Rattle.ev_types.specs.Trace.{Trace}

-- a list that is told grew by these entries at its end, and is told on
abbrev pub Grew : Option Trace → Option Trace → Trace → Type 0
Grew old new added = MatchOption old ⊤ (λ before. new ≡ Some (before ++ added))

-- whatever trace was vouched for, the trace with these entries at its end is vouched for now
abbrev pub Longer : (Trace → Type 0) → (Trace → Type 0) → Trace → Type 0
Longer old new added = (t : Trace) → old t → new (t ++ added)
