-- How what a port vouches for goes on, and when no link waits by it. It vouches for traces as answered by a plan of its own, which
-- stays.
use Rattle.std.specs.Prelude.{◌≡◌, Bool, true, false}
use Rattle.std.specs.List.{list_any}
use Rattle.ev_types.specs.declared.entry.Entry.TheVariants as entry
use Rattle.ev_types.specs.Growth.{Longer}
use Rattle.ev_types.specs.Trace.{Event, Trace}

-- whatever trace was vouched for by a plan, the trace with these entries at its end is vouched for by it now
abbrev pub LongerBy : {Plan : Type 0} → (Plan → Trace → Type 0) → (Plan → Trace → Type 0) → Trace → Type 0
LongerBy {Plan} old new added = (plan : Plan) → Longer (old plan) (new plan) added

-- behind each trace that is vouched for, no link waits by the plan
abbrev pub NothingWaits : {Plan : Type 0} → (Plan → Trace → Type 0) → (Plan → Trace → Type 0) → Type 0
NothingWaits {Plan} vouches none_waits = (plan : Plan) (t : Trace) → vouches plan t → none_waits plan t

-- an event with which other links may wait: a turn begins, or a link is opened
abbrev pub tells_links : Event → Bool
tells_links (entry.Turn ms, bytes) = true
tells_links (entry.Opened link connected, bytes) = true
tells_links _ = false

-- these entries begin no turn and open no link
abbrev pub TellsNoLinks : Trace → Type 0
TellsNoLinks t = list_any tells_links t ≡ false
