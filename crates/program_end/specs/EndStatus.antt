-- What a program says of how it ended: the status of its process, and a line on standard error.
use Rattle.std.specs.Prelude.{ℕ, List, [], ◌∷◌, ◌++◌, codes, Option, Some, None}
use Rattle.std.specs.Fmt.{decimal}
use Rattle.ev_types.specs.declared.status.Status.{Status}
use Rattle.ev_types.specs.declared.status.Status.TheVariants as status
use Rattle.relay_drive.specs.declared.fault.DriveFault.{DriveFault}
use Rattle.relay_drive.specs.declared.fault.DriveFault.TheVariants as fault

-- the status where a turn was refused
abbrev pub status_of : DriveFault → Status
status_of fault.Memory = status.Memory
status_of fault.PollFault = status.PollFault
status_of fault.OpenFault = status.OpenFault
status_of fault.Spent = status.Spent

-- the status of the process
abbrev pub status_number : Status → ℕ
status_number status.Ok = 0
status_number status.Usage = 1
status_number (status.BadScript line) = 2
status_number status.ReadFault = 3
status_number status.WriteFault = 4
status_number status.PollFault = 5
status_number (status.Stopped link turn) = 6
status_number status.TooLong = 7
status_number status.Memory = 8
status_number status.OpenFault = 9
status_number status.Spent = 10

-- the line on standard error, without its end
abbrev pub status_text : Status → Option (List ℕ)
status_text status.Ok = None
status_text status.Usage = Some (codes "usage")
status_text (status.BadScript line) = Some (codes "bad script: line " ++ decimal line)
status_text status.ReadFault = Some (codes "read fault")
status_text status.WriteFault = Some (codes "write fault")
status_text status.PollFault = Some (codes "poll fault")
status_text (status.Stopped link turn) = Some (codes "stopped: link " ++ (decimal link ++ (codes " turn " ++ decimal turn)))
status_text status.TooLong = Some (codes "too long")
status_text status.Memory = Some (codes "out of memory")
status_text status.OpenFault = Some (codes "open fault")
status_text status.Spent = Some (codes "count spent")

abbrev pub ended_line : Option (List ℕ) → List ℕ
ended_line None = []
ended_line (Some text) = text ++ 10 ∷ []

-- what is said on standard error: the line of the status with its end, or nothing
abbrev pub complaint : Status → List ℕ
complaint ended = ended_line (status_text ended)
