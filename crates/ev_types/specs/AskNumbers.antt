-- That the numbers of what hooks ask fit their types.
use Rattle.std.specs.Prelude.{ℕ, ◌^◌, ◌<◌, ⊤, All}
use Rattle.ev_types.specs.declared.act.Act.{Act}
use Rattle.ev_types.specs.declared.act.Act.TheVariants as act
use Rattle.ev_types.specs.declared.entry.Entry.TheVariants as entry
use Rattle.ev_types.specs.declared.side.SideId.{SideId}
use Rattle.ev_types.specs.Trace.{Event, Trace}

-- a number of 64 bits
abbrev pub IsWide : ℕ → Type 0
IsWide n = n < 2 ^ 64

-- an end whose link has a number of 32 bits
abbrev pub IsEnd : SideId → Type 0
IsEnd end = end.link < 2 ^ 32

-- The numbers of an ask fit their types. A limit keeps its own rule.
abbrev pub IsAct : Act → Type 0
IsAct (act.Free end) = IsEnd end
IsAct (act.Enable end dir) = IsEnd end
IsAct (act.Disable end dir) = IsEnd end
IsAct (act.Marks end dir low high) = IsEnd end × IsWide low × IsWide high
IsAct (act.Timeouts end read write) = IsEnd end × IsWide read × IsWide write
IsAct (act.Rate end limit) = IsEnd end
IsAct (act.Join end group) = IsEnd end × (group < 2 ^ 32)
IsAct (act.Leave end) = IsEnd end
IsAct (act.Trigger end dir) = IsEnd end
IsAct (act.Timer end ms) = IsEnd end × IsWide ms
IsAct (act.Cancel end) = IsEnd end
IsAct (act.Incref end) = IsEnd end
IsAct (act.Decref end) = IsEnd end
IsAct act.Stop = ⊤

-- the numbers of what a hook asks fit their types
abbrev pub AskFits : Event → Type 0
AskFits (entry.Asked me act answer, bytes) = IsAct act
AskFits _ = ⊤

-- So do those of all asks in a trace.
abbrev pub AsksFit : Trace → Type 0
AsksFit t = All AskFits t
