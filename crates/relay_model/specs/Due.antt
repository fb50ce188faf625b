-- The reasons for which hooks are to be called: at most one pending entry a side, with joined reasons. When a reason
-- becomes due stands in Rooms and behind it.
use Rattle.std.specs.Prelude.{ℕ, Bool, true, false, if◌then◌else◌, not, List, [], ◌∷◌, ◌++◌, filter, Option, Some, None, bit_or}
use Rattle.std.specs.List.{flat_map}
use Rattle.ev_types.specs.declared.side.SideId.{SideId}
use Rattle.ev_types.specs.declared.why.Why.{Why}
use Rattle.ev_types.specs.declared.why.Why.TheVariants as why
use Rattle.ev_types.specs.Sides.{same_end}

-- what is due for one side
pub record Due : Type 0 where
  pub side : SideId
  pub connected : Bool
  pub read : Bool
  pub write : Bool
  pub event : Option ℕ  -- the joined flags of its events
  pub timer : Bool

-- a reason that is to be fired
abbrev pub Reason : Type 0
Reason = SideId × Why

abbrev pub nothing_due : SideId → Due
nothing_due e = record { side = e; connected = false; read = false; write = false; event = None; timer = false }

-- an event with these flags
abbrev pub event : ℕ → Why
event flags = why.Event (record { 0 = flags })

abbrev pub joined_flags : Option ℕ → ℕ → Option ℕ
joined_flags None n = Some n
joined_flags (Some m) n = Some (bit_or m n)

-- an entry with one reason more
abbrev pub joined : Due → Why → Due
joined d why.Connected = record d { connected = true }
joined d why.Read = record d { read = true }
joined d why.Write = record d { write = true }
joined d why.Timer = record d { timer = true }
joined d (why.Event flags) = record d { event = joined_flags d.event flags.0 }

-- The pending entries after a reason becomes due: it joins the side's entry where it has one, and else makes a new entry
-- behind the others.
abbrev pub with_reason : SideId → Why → List Due → List Due
with_reason e y [] = joined (nothing_due e) y ∷ []
with_reason e y (d ∷ ds) = if same_end d.side e then joined d y ∷ ds else d ∷ with_reason e y ds

-- the pending entries without those of a side
abbrev pub without_due : SideId → List Due → List Due
without_due e ds = filter (λ d. not (same_end d.side e)) ds

-- the reasons that are to be fired, without those of a side
abbrev pub without_reasons : SideId → List Reason → List Reason
without_reasons e rs = filter (λ r. not (same_end r.0 e)) rs

abbrev pub reason_where : Bool → SideId → Why → List Reason
reason_where holds e y = if holds then (e, y) ∷ [] else []

abbrev pub event_reason : SideId → Option ℕ → List Reason
event_reason e None = []
event_reason e (Some flags) = (e, event flags) ∷ []

-- the reasons of one entry, in their order
abbrev pub reasons : Due → List Reason
reasons d =
    reason_where d.connected d.side why.Connected
    ++ reason_where d.read d.side why.Read
    ++ reason_where d.write d.side why.Write
    ++ event_reason d.side d.event
    ++ reason_where d.timer d.side why.Timer

-- what a turn fires: the reasons of the pending entries, entry by entry
abbrev pub batch : List Due → List Reason
batch ds = flat_map reasons ds
