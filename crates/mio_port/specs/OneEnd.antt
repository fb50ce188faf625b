-- One end after each call: which ready bits it keeps, when its count of faults rises, and what the system is yet to be told of it.
use Rattle.std.specs.Prelude.{ℕ, ◌==◌, Bool, true, false, not, ◌&&◌, ◌||◌, nat_lt, if◌then◌else◌, List, [], length}
use Rattle.ev_port.specs.Counting.{risen_if}
use Rattle.mio.specs.declared.event.event.Event.{Event}
use Rattle.mio.specs.Event.{is_readable, is_writable, is_error, is_read_closed, is_write_closed}
use Rattle.mio_port.specs.declared.attempt.Attempt.{Attempt}
use Rattle.mio_port.specs.declared.attempt.Attempt.TheVariants as attempt
use Rattle.mio_port.specs.declared.check.Check.{Check}
use Rattle.mio_port.specs.declared.check.Check.TheVariants as check
use Rattle.mio_port.specs.declared.end.Connection.{Connection}
use Rattle.mio_port.specs.declared.end.Connection.TheVariants as connection
use Rattle.mio_port.specs.declared.end.End.{End}
use Rattle.mio_port.specs.declared.socket_call.SocketCall.TheVariants as call
use Rattle.mio_port.specs.SocketCalls.{CallMade}
use Rattle.mio_port.specs.Sockets.{with_call}

-- an end of which nothing was reported and that met no fault
abbrev pub fresh : Connection → Bool → End
fresh by write_ready = record {
  connection = by;
  read_ready = false;
  write_ready = write_ready;
  hung_up = false;
  filled = false;
  bulky = false;
  came_short = false;
  delayed = false;
  ending = false;
  faults = 0;
}

-- the kernel reported this: an error and a hang-up make it ready both ways
abbrev pub noticed_end : End → Event → End
noticed_end e seen = record e {
  read_ready = e.read_ready || is_readable seen || is_read_closed seen || is_error seen || is_write_closed seen;
  write_ready = e.write_ready || is_writable seen || is_error seen || is_write_closed seen;
  hung_up = e.hung_up || is_read_closed seen || is_error seen || is_write_closed seen;
}

-- an end that met one more fault
abbrev pub faulty : End → End
faulty e = record e { faults = risen_if true e.faults }

-- a connection of which one more call was made; where no socket is none can be
abbrev pub told : Connection → CallMade → Connection
told (connection.Open socket) x = connection.Open (with_call socket x)
told connection.Refused x = connection.Refused
told connection.Closed x = connection.Closed

abbrev pub told_end : End → CallMade → End
told_end e x = record e { connection = told e.connection x }

-- one more read filled its room or didn't: the end is bulky if one of the last two did
abbrev pub counted_read : End → Bool → End
counted_read e full = record e { filled = full; bulky = full || e.filled }

-- A read that came short of its room, with no hang-up, and one that would block leave nothing to read. An interrupted read doesn't count.
abbrev pub after_read : End → Attempt → ℕ → End
after_read e (attempt.Moved count) room = record (counted_read e (not (nat_lt count room))) {
  read_ready = e.read_ready && (e.hung_up || not (nat_lt count room));
}
after_read e attempt.WouldBlock room = record (counted_read e false) { read_ready = false }
after_read e attempt.Interrupted room = e
after_read e attempt.Failed room = faulty (counted_read e false)
after_read e attempt.Absent room = e

-- one read was made, which left its room so
abbrev pub read_end : End → Attempt → List ℕ → End
read_end e a into = after_read (told_end e (call.Read a, into)) a (length into)

-- A write that came short of what was offered, and one that would block leave no room to write.
abbrev pub after_write : End → Attempt → ℕ → End
after_write e (attempt.Moved count) offered =
    if count == 0 then faulty e else record e {
      write_ready = e.write_ready && not (nat_lt count offered);
      came_short = nat_lt count offered;
    }
after_write e attempt.WouldBlock offered = record e { write_ready = false; came_short = true }
after_write e attempt.Interrupted offered = e
after_write e attempt.Failed offered = faulty e
after_write e attempt.Absent offered = e

-- an end of writing that was pending is handed to the system, once
abbrev pub handed_on_end : End → End
handed_on_end e = if e.ending then record (told_end e (call.EndedWriting, [])) { ending = false } else e

-- the system may keep its short writes back, and was told so once
abbrev pub delayed_end : End → End
delayed_end e = if e.delayed then e else record (told_end e (call.Delayed, [])) { delayed = true }

-- it keeps none back, and was told so if it might have before
abbrev pub undelayed_end : End → End
undelayed_end e = if e.delayed then record (told_end e (call.Undelayed, [])) { delayed = false } else e

abbrev pub delayed_if : Bool → End → End
delayed_if true e = delayed_end e
delayed_if false e = undelayed_end e

-- one write of these bytes was made, after an end of writing that was pending; it may be kept back where more follows
abbrev pub written_end : Bool → End → Attempt → List ℕ → End
written_end more e a from = after_write (told_end (delayed_if more (handed_on_end e)) (call.Write a, from)) a (length from)

-- an early check waits for the next report, and a failed one drops the socket
abbrev pub after_check : End → Check → End
after_check e check.Made = e
after_check e check.Early =
    if e.hung_up then record (faulty e) { connection = connection.Refused } else record e { write_ready = false }
after_check e check.Unsure = e
after_check e check.Failed = record (faulty e) { connection = connection.Refused }
after_check e check.Absent = e

-- one check was made
abbrev pub checked_end : End → Check → End
checked_end e c = after_check (told_end e (call.Checked c, [])) c

abbrev pub has_socket : Connection → Bool
has_socket (connection.Open socket) = true
has_socket connection.Refused = false
has_socket connection.Closed = false

-- its writing is to be ended where it has a socket, and the system was not told yet
abbrev pub ended_end : End → End
ended_end e = record e { ending = has_socket e.connection }

-- a closed end has no connection, of which nothing more is told, and keeps its count
abbrev pub closed_end : End → End
closed_end e = record e {
  connection = connection.Closed;
  read_ready = false;
  write_ready = false;
  filled = false;
  bulky = false;
  came_short = false;
  delayed = false;
  ending = false;
}
