-- What the hooks of a run heard and asked, as its trace says, and whether they asked what was planned.
use Rattle.std.specs.Prelude.{◌≡◌, ◌⊎◌, Bool, true, false, if◌then◌else◌, List, [], ◌∷◌, ◌++◌}
use Rattle.std.specs.List.{flat_map, list_all}
use Rattle.ev_types.specs.declared.side.SideId.{SideId}
use Rattle.ev_types.specs.declared.act.Act.{Act}
use Rattle.ev_types.specs.declared.answer.AskAnswer.{AskAnswer}
use Rattle.ev_types.specs.declared.why.Why.{Why}
use Rattle.ev_types.specs.declared.entry.Entry.TheVariants as entry
use Rattle.ev_types.specs.Sides.{same_end}
use Rattle.ev_types.specs.Trace.{Event, Trace}
use Rattle.ev_types.specs.declared.plan_line.PlanLine.{PlanLine}
use Rattle.relay_model.specs.Plans.{IsPlanned}
use Rattle.relay_model.specs.Answers.{TurnAnswer}

abbrev pub heard_by : SideId → Event → List Why
heard_by e (entry.Fired side y, bytes) = if same_end side e then y ∷ [] else []
heard_by e _ = []

abbrev pub asked_by : SideId → Event → List (Act × AskAnswer)
asked_by e (entry.Asked side act answer, bytes) = if same_end side e then (act, answer) ∷ [] else []
asked_by e _ = []

-- the reasons for which the hook of a side was called
abbrev pub heard_in : SideId → Trace → List Why
heard_in e t = flat_map (heard_by e) t

-- what it asked, with the answers
abbrev pub asked_in : SideId → Trace → List (Act × AskAnswer)
asked_in e t = flat_map (asked_by e) t

-- Every hook asked what its plan has for what it heard.
abbrev pub AskedAsPlanned : (SideId → List PlanLine) → Trace → Type 0
AskedAsPlanned plan t = (e : SideId) → IsPlanned (plan e) (heard_in e t) (asked_in e t)

-- does an entry stand within a fire
abbrev pub is_within_fire : Event → Bool
is_within_fire (entry.Asked side act answer, bytes) = true
is_within_fire (entry.Freed side cause moved given, bytes) = true
is_within_fire _ = false

-- A last fire in which memory was wanting may have asked anything; before it everything was asked as planned.
abbrev pub CutOffInFire : (SideId → List PlanLine) → Trace → Type 0
CutOffInFire plan t =
    (before fire : Trace) × (side : SideId) × (y : Why) × (t ≡ before ++ (entry.Fired side y, []) ∷ fire)
    × (list_all is_within_fire fire ≡ true) × AskedAsPlanned plan before

-- The hooks of a run with this answer asked what was planned.
abbrev pub AskPlanned : (SideId → List PlanLine) → TurnAnswer → Trace → Type 0
AskPlanned plan TurnAnswer.Memory t = AskedAsPlanned plan t ⊎ CutOffInFire plan t
AskPlanned plan _ t = AskedAsPlanned plan t
