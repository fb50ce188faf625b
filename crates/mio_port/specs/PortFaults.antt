-- The counts of faults of a port over sockets. It tells nothing beside them, and vouches for no trace.
use Rattle.std.specs.Prelude.{◌≡◌, ⊤}
use Rattle.ev_types.specs.declared.side.SideId.{SideId}
use Rattle.ev_types.specs.Trace.{Trace}
use Rattle.ev_port.specs.Faults.{Faults}
use Rattle.mio_port.specs.declared.mio_port.MioPort.{MioPort}
use Rattle.mio_port.specs.EndPlaces.{end_faults}

-- one count for polling, one for the listener and one for each end that was made
abbrev pub mio_faults : {R : Type 0} → MioPort R → Faults
mio_faults p = record { ends = end_faults p.ends.ends.items; polling = p.polling_faults; listener = p.acceptor.faults }

-- it answers by no plan that tells anything, and vouches for no trace
abbrev pub vouches_nothing : {R : Type 0} → MioPort R → ⊤ → Trace → Type 0
vouches_nothing p plan t = ⊥

-- so nothing rests on what this says of links that wait
abbrev pub waits_untold : ⊤ → Trace → Type 0
waits_untold plan t = ⊤

-- no fault was met yet
pub record IsFaultless (counts : Faults) : Type 0 where
  pub ends : (e : SideId) → counts.ends e ≡ 0
  pub polling : counts.polling ≡ 0
  pub listener : counts.listener ≡ 0
