-- What is told of a run by those outside of it: the scribe, the port and the sink.
use Rattle.std.specs.Prelude.{ℕ, List, Option}
use Rattle.ev_types.specs.declared.side.SideId.{SideId}
use Rattle.ev_types.specs.Told.{EndTold, PortTold}
use Rattle.ev_types.specs.Trace.{Trace}
use Rattle.ev_port.specs.declared.port.Port as port
use Rattle.ev_port.specs.declared.scribe.Scribe as scribe
use Rattle.ev_port.specs.declared.stream.Sink as sink
use Rattle.ev_port.specs.Faults.{Faults}

-- It was told at some time that no more links will be asked for: of a port of which no more is known only that call gives this.
abbrev pub WasStopped : {P : Type 0} → port.Ghosts P → Type 0
WasStopped {P} p = (old : P) × (new : P) × p.stops old new

-- the trace that the scribe keeps, what the port tells of itself and of its ends, and its faults
pub record Seen : Type 0 where
  pub log : Option Trace
  pub told : PortTold
  pub ends : SideId → EndTold
  pub faults : Faults

abbrev pub seen : {P S : Type 0} → port.Ghosts P → scribe.Ghosts S → P × S → Seen
seen g h x = record { log = h.trace x.1; told = g.told x.0; ends = g.ends x.0; faults = g.faults x.0 }

-- the bytes that the sink took, and its faults
pub record Drained : Type 0 where
  pub taken : Option (List ℕ)
  pub faults : ℕ

abbrev pub drained : {K : Type 0} → sink.Ghosts K → K → Drained
drained g k = record { taken = g.taken k; faults = g.faults k }
