-- How a drive keeps its value.
use Rattle.std.specs.Prelude.{◌≡◌, [], vec_len, Some, None, IfSome}
use Rattle.ev_types.specs.Trace.{Trace}
use Rattle.relay_state.specs.State.{State}
use Rattle.relay_drive.specs.declared.agenda.Agenda.{Agenda}
use Rattle.relay_drive.specs.declared.naming.Naming.{Naming}
use Rattle.relay_drive.specs.declared.drive.Drive.TheInside.{Inside}
use Rattle.relay_drive.specs.DriveValue.{DriveValue, kept_of}
use Rattle.relay_drive.specs.DriveStands.{StandsBetween}
use Rattle.relay_drive.specs.Agenda.{IsKept, IsNamed}

abbrev pub drive_of : Inside → DriveValue
drive_of d = record { state = d.run.relay.state; entries = d.run.entries; kept = d.kept }

-- Between two turns it is known at which links nothing is to be done, and what the sides want if groups are suspended as they were; nothing
-- is left to fire, and the relay stands for some trace.
pub record IsReady (agenda : Agenda) (naming : Naming) (s : State) : Type 0 where
  pub kept : IsKept agenda s
  pub named : IsNamed agenda naming s
  pub bare : s.batch ≡ []
  pub trace : Trace
  pub stands : StandsBetween trace s

-- There is room for the longest read; an answer is kept only where it is one to keep, and where none is it is ready for a turn.
pub record IsSound (d : Inside) : Type 0 where
  pub inbox : vec_len d.inbox ≡ 16384
  pub over : IfSome d.kept (λ answer. kept_of answer ≡ Some answer)
  pub ready : d.kept ≡ None → IsReady d.agenda d.naming d.run.relay.state
