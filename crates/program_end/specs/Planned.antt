-- Hooks that tell a plan, and what they have told of a trace.
use Rattle.std.specs.Prelude.{◌≡◌, Bool, ◌&&◌, List, [], Option, Some, IfSome, MatchOption, is_some}
use Rattle.ev_types.specs.declared.plan_line.PlanLine.{PlanLine}
use Rattle.ev_types.specs.declared.side.SideId.{SideId}
use Rattle.ev_types.specs.Sides.{number}
use Rattle.ev_types.specs.Trace.{Trace}
use Rattle.relay_core.specs.Fires.{HasToldNothing}
use Rattle.relay_model.specs.Hooked.{heard_in, asked_in}
use Rattle.relay_model.specs.Plans.{IsPlanned}
use Rattle.relay_drive.specs.Seats.{seat, hook_at, Telling}

-- it was called for nothing yet, and asked nothing, as far as it tells
abbrev pub IsFresh : {H : Type 0} → Telling H → H → Type 0
IsFresh tells h = HasToldNothing (tells.heard h) × HasToldNothing (tells.asked h)

-- a hook that tells all of itself
abbrev pub tells_all : {H : Type 0} → Telling H → H → Bool
tells_all tells h = is_some (tells.heard h) && is_some (tells.asked h) && is_some (tells.planned h)

-- this is planned for a hook that was called for nothing yet and asked nothing
abbrev pub HasPlan : {H : Type 0} → Telling H → List PlanLine → H → Type 0
HasPlan tells plan h = (tells.planned h ≡ Some plan) × (tells.heard h ≡ Some []) × (tells.asked h ≡ Some [])

-- of each side's hook, which is in its slot
abbrev pub HavePlans : {H : Type 0} → Telling H → (SideId → List PlanLine) → List (Option H) → Type 0
HavePlans tells plan hooks = (e : SideId) → IfSome (hook_at hooks (number e)) (HasPlan tells (plan e))

-- It heard and asked what the trace says of its side, which is what its plan has for that.
pub record ToldOf {H : Type 0} (tells : Telling H) (plan : List PlanLine) (e : SideId) (t : Trace) (h : H) : Type 0 where
  pub planned : tells.planned h ≡ Some plan
  pub heard : tells.heard h ≡ Some (heard_in e t)
  pub asked : tells.asked h ≡ Some (asked_in e t)
  pub by_plan : IsPlanned plan (heard_in e t) (asked_in e t)

-- So it is of each side's hook, in its slot or out of it for good; and of a side without one the trace says nothing.
abbrev pub AllToldOf : {H : Type 0} → Telling H → (SideId → List PlanLine) → List (Option H) → List (Option H) → Trace → Type 0
AllToldOf tells plan hooks gone t = (e : SideId) → MatchOption (seat hooks gone (number e)) ((heard_in e t ≡ []) × (asked_in e t ≡ []))
    (ToldOf tells (plan e) e t)
