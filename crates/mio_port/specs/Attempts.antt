-- What one try at a read, a write or a connect check came to, and what it is answered.
use Rattle.std.specs.Prelude.{◌≡◌, ◌≢◌, ℕ, ◌≤◌, ⊤, Bool, ◌==◌, Option, Some, None, Result, Ok, Err, if◌then◌else◌}
use Rattle.std.specs.IoError.{error_kind}
use Rattle.std.specs.declared.io.Error.{Error}
use Rattle.std.specs.declared.net.socket_addr.SocketAddr.{SocketAddr}
use Rattle.std.specs.declared.io.ErrorKind.{ErrorKind}
use Rattle.std.specs.declared.io.ErrorKind.TheVariants as kind
use Rattle.ev_types.specs.declared.answer.ConnAnswer.{ConnAnswer}
use Rattle.ev_types.specs.declared.answer.ConnAnswer.TheVariants as conn
use Rattle.ev_types.specs.declared.answer.ReadAnswer.{ReadAnswer}
use Rattle.ev_types.specs.declared.answer.ReadAnswer.TheVariants as read
use Rattle.ev_types.specs.declared.answer.WriteAnswer.{WriteAnswer}
use Rattle.ev_types.specs.declared.answer.WriteAnswer.TheVariants as write
use Rattle.mio_port.specs.declared.attempt.Attempt.{Attempt}
use Rattle.mio_port.specs.declared.attempt.Attempt.TheVariants as attempt
use Rattle.mio_port.specs.declared.end.Connection.{Connection}
use Rattle.mio_port.specs.declared.end.Connection.TheVariants as connection
use Rattle.mio_port.specs.declared.check.Check.{Check}
use Rattle.mio_port.specs.declared.check.Check.TheVariants as check

-- an error that would have blocked, one that was interrupted, and any other
abbrev pub attempt_of_kind : ErrorKind → Attempt
attempt_of_kind kind.WouldBlock = attempt.WouldBlock
attempt_of_kind kind.Interrupted = attempt.Interrupted
attempt_of_kind _ = attempt.Failed

-- no more bytes moved than there was room for, and there was a connection
abbrev pub AttemptWithin : Attempt → ℕ → Type 0
AttemptWithin (attempt.Moved count) most = count ≤ most
AttemptWithin attempt.WouldBlock most = ⊤
AttemptWithin attempt.Interrupted most = ⊤
AttemptWithin attempt.Failed most = ⊤
AttemptWithin attempt.Absent most = ⊥

-- what a connection makes of a try: one that was refused fails, and one that is gone has none
abbrev pub AttemptBy : Connection → Attempt → ℕ → Type 0
AttemptBy (connection.Open stream) a most = AttemptWithin a most
AttemptBy connection.Refused a most = a ≡ attempt.Failed
AttemptBy connection.Closed a most = a ≡ attempt.Absent

abbrev pub CheckBy : Connection → Check → Type 0
CheckBy (connection.Open stream) c = c ≢ check.Absent
CheckBy connection.Refused c = c ≡ check.Failed
CheckBy connection.Closed c = c ≡ check.Absent

-- a read of no bytes is the end
abbrev pub read_answer : Attempt → ReadAnswer
read_answer (attempt.Moved count) = if count == 0 then read.Ended else read.Got count
read_answer attempt.WouldBlock = read.NotYet
read_answer attempt.Interrupted = read.NotYet
read_answer attempt.Failed = read.Failed
read_answer attempt.Absent = read.NotYet

-- a write of no bytes failed
abbrev pub write_answer : Attempt → WriteAnswer
write_answer (attempt.Moved count) = if count == 0 then write.Failed else write.Took count
write_answer attempt.WouldBlock = write.NotYet
write_answer attempt.Interrupted = write.NotYet
write_answer attempt.Failed = write.Failed
write_answer attempt.Absent = write.NotYet

-- a connection that isn't made yet, one of which an interrupted call tells nothing, and one that failed
abbrev pub check_of_kind : ErrorKind → Check
check_of_kind kind.NotConnected = check.Early
check_of_kind kind.Interrupted = check.Unsure
check_of_kind _ = check.Failed

-- what an end finds that asked for the error that waits, and for its peer's address
abbrev pub check_of : Result (Option Error) Error → Result SocketAddr Error → Check
check_of (Ok None) (Ok peer) = check.Made
check_of (Ok None) (Err error) = check_of_kind (error_kind error)
check_of (Ok (Some waiting)) peer = check.Failed
check_of (Err error) peer = check.Failed

-- a connection that is still being made, and of which nothing more will be reported, failed
abbrev pub check_answer : Bool → Check → ConnAnswer
check_answer hung_up check.Made = conn.Connected
check_answer hung_up check.Early = if hung_up then conn.Failed else conn.Pending
check_answer hung_up check.Unsure = conn.Pending
check_answer hung_up check.Failed = conn.Failed
check_answer hung_up check.Absent = conn.Pending
