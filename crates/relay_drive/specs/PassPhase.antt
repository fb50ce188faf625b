-- Passing all links as a relation of the relay's state, and where it can be cut off; and what is done for all links.
use Rattle.std.specs.Prelude.{◌≡◌, ℕ, [], ◌∷◌}
use Rattle.ev_types.specs.declared.side.SideId.{SideId}
use Rattle.ev_types.specs.Trace.{Trace}
use Rattle.relay_state.specs.State.{State}
use Rattle.relay_state.specs.Passing.{PassedFrom, PartlyPassed}
use Rattle.relay_state.specs.Closing.{in_side, out_side}
use Rattle.relay_drive.specs.Steps.{Each, CutAt, links_from}

abbrev pub PassesSide : SideId → State → Trace → State → Type 0
PassesSide e s a new = (a ≡ []) × PassedFrom s e new

abbrev pub CutPassing : SideId → State → Trace → State → Type 0
CutPassing e s a new = (a ≡ []) × PartlyPassed s e new

-- the direction from In, and then the other
abbrev pub PassesLink : ℕ → State → Trace → State → Type 0
PassesLink k s a new = Each PassesSide (in_side k ∷ out_side k ∷ []) s a new

abbrev pub CutPassingLink : ℕ → State → Trace → State → Type 0
CutPassingLink k s a new = CutAt PassesSide CutPassing (in_side k ∷ out_side k ∷ []) s a new

-- all links, from the first to the last that is open then
abbrev pub ForAllLinks : (ℕ → State → Trace → State → Type 0) → State → Trace → State → Type 0
ForAllLinks R s a new = Each R (links_from 0 s.plain.opened) s a new

abbrev pub CutForAllLinks : (ℕ → State → Trace → State → Type 0) → (ℕ → State → Trace → State → Type 0) → State → Trace → State → Type 0
CutForAllLinks R Cut s a new = CutAt R Cut (links_from 0 s.plain.opened) s a new
