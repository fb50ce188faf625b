-- What waits to be fired: it is of live sides that have a hook, and its flags fit a byte.
use Rattle.std.specs.Prelude.{◌≡◌, ◌^◌, ◌<◌, ⊤, true, List, [], All, IfSome}
use Rattle.ev_types.specs.declared.side.SideId.{SideId}
use Rattle.ev_types.specs.declared.why.Why.{Why}
use Rattle.ev_types.specs.declared.why.Why.TheVariants as why
use Rattle.ev_types.specs.Trace.{Trace}
use Rattle.relay_model.specs.Settings.{Settings}
use Rattle.relay_model.specs.Due.{Due, Reason}
use Rattle.relay_model.specs.Plain.{Plain, is_live}
use Rattle.relay_model.specs.Reasons.{has_hook}
use Rattle.relay_model.specs.Stages.{Stage, State, Dispatching, Firing, Freeing}
use Rattle.relay_model.specs.Turn.{Reaches}

-- a live side that has a hook
abbrev pub IsHooked : Settings → Plain → SideId → Type 0
IsHooked g p e = (is_live p e ≡ true) × (has_hook g e ≡ true)

-- The flags of an event fit a byte. No other reason has any.
abbrev pub FlagsFit : Why → Type 0
FlagsFit (why.Event flags) = flags.0 < 2 ^ 8
FlagsFit _ = ⊤

-- A pending entry is of such a side, and its joined flags fit.
abbrev pub DueOf : Settings → Plain → Due → Type 0
DueOf g p d = IsHooked g p d.side × IfSome d.event (λ flags. flags < 2 ^ 8)

-- So is a reason.
abbrev pub ReasonOf : Settings → Plain → Reason → Type 0
ReasonOf g p r = IsHooked g p r.0 × FlagsFit r.1

-- what is left to fire at a stage
abbrev pub left_in : Stage → List Reason
left_in (Dispatching rs) = rs
left_in (Firing x rs) = rs
left_in (Freeing gone x rs) = rs
left_in _ = []

-- All that is pending and all that is left to fire is so.
pub record Waits (g : Settings) (x : Stage) (p : Plain) : Type 0 where
  pub due : All (DueOf g p) p.due
  pub left : All (ReasonOf g p) (left_in x)

-- So it is in every state that a trace leads to.
abbrev pub WaitsAreHooked : Type 0
WaitsAreHooked = (g : Settings) (t : Trace) (s : State) → Reaches g t s → Waits g s.stage s.plain
