-- Short words for the events of written-out traces. Each is one entry with the bytes beside it.
use Rattle.std.specs.Prelude.{ℕ, true, false, List, [], length, Some, None}
use Rattle.ev_types.specs.declared.side.Side.TheVariants.{In, Out}
use Rattle.ev_types.specs.declared.side.SideId.{SideId}
use Rattle.ev_types.specs.declared.answer.ConnAnswer.TheVariants as conn
use Rattle.ev_types.specs.declared.answer.ReadAnswer.TheVariants as read
use Rattle.ev_types.specs.declared.answer.WriteAnswer.TheVariants as write
use Rattle.ev_types.specs.declared.answer.AskAnswer.{AskAnswer}
use Rattle.ev_types.specs.declared.act.Act.{Act}
use Rattle.ev_types.specs.declared.why.Cause.{Cause}
use Rattle.ev_types.specs.declared.why.Why.{Why}
use Rattle.ev_types.specs.declared.entry.Entry.TheVariants as entry
use Rattle.ev_types.specs.Trace.{Event}

-- the sides of a link
abbrev pub in_of : ℕ → SideId
in_of k = record { link = k; side = In }

abbrev pub out_of : ℕ → SideId
out_of k = record { link = k; side = Out }

-- a turn begins at a time
abbrev pub turn : ℕ → Event
turn ms = (entry.Turn ms, [])

-- the poll has no timeout, or one of so many milliseconds
abbrev pub poll : Event
poll = (entry.Poll None, [])

abbrev pub poll_for : ℕ → Event
poll_for ms = (entry.Poll (Some ms), [])

abbrev pub poll_failed : Event
poll_failed = (entry.PollFailed, [])

-- a side wants to read, to write, or both
abbrev pub wants_read : SideId → Event
wants_read e = (entry.Want e true false, [])

abbrev pub wants_write : SideId → Event
wants_write e = (entry.Want e false true, [])

abbrev pub wants_both : SideId → Event
wants_both e = (entry.Want e true true, [])

-- the poll marked a side as ready to read, to write, or both
abbrev pub can_read : SideId → Event
can_read e = (entry.Ready e true false, [])

abbrev pub can_write : SideId → Event
can_write e = (entry.Ready e false true, [])

abbrev pub can_both : SideId → Event
can_both e = (entry.Ready e true true, [])

-- a link was opened, its Out end connected or not
abbrev pub opens : ℕ → Event
opens k = (entry.Opened k true, [])

abbrev pub opens_waiting : ℕ → Event
opens_waiting k = (entry.Opened k false, [])

-- a connecting end was asked: it is connected, not yet, or can't be
abbrev pub connects : SideId → Event
connects e = (entry.Conn e conn.Connected, [])

abbrev pub connect_waits : SideId → Event
connect_waits e = (entry.Conn e conn.Pending, [])

abbrev pub connect_fails : SideId → Event
connect_fails e = (entry.Conn e conn.Failed, [])

-- an end was read with this room: it gave these bytes, was at its end, had nothing yet, or failed
abbrev pub gets : SideId → ℕ → List ℕ → Event
gets e room bytes = (entry.Read e room (read.Got (length bytes)), bytes)

abbrev pub ends : SideId → ℕ → Event
ends e room = (entry.Read e room read.Ended, [])

abbrev pub read_waits : SideId → ℕ → Event
read_waits e room = (entry.Read e room read.NotYet, [])

abbrev pub read_fails : SideId → ℕ → Event
read_fails e room = (entry.Read e room read.Failed, [])

-- an end was offered so many bytes: it took these, none yet, or failed
abbrev pub takes : SideId → ℕ → List ℕ → Event
takes e offered bytes = (entry.Write e offered (write.Took (length bytes)), bytes)

abbrev pub write_waits : SideId → ℕ → Event
write_waits e offered = (entry.Write e offered write.NotYet, [])

abbrev pub write_fails : SideId → ℕ → Event
write_fails e offered = (entry.Write e offered write.Failed, [])

-- a hook was called, and what it asked was answered
abbrev pub fires : SideId → Why → Event
fires e y = (entry.Fired e y, [])

abbrev pub asks : SideId → Act → AskAnswer → Event
asks e a answer = (entry.Asked e a answer, [])

-- a side was freed, so many bytes having been moved from it and given to it; writing was ended; an end was closed
abbrev pub frees : SideId → Cause → ℕ → ℕ → Event
frees e why moved given = (entry.Freed e why moved given, [])

abbrev pub ends_writing : SideId → Event
ends_writing e = (entry.CloseWrite e, [])

abbrev pub closes : SideId → Event
closes e = (entry.Close e, [])
