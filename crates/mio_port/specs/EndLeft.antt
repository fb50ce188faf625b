-- What a call leaves of the ends: what its answer tells of the end that it names, and all others as they were. A poll takes nothing
-- from an end.
use Rattle.std.specs.Prelude.{◌≡◌, ◌≢◌, ◌⊎◌, ◌+◌, ◌*◌, ⊤, ℕ, Bool, true, false, List, Option, Some, None, Result, Ok, Err, MatchOption}
use Rattle.std.specs.Prelude.{slice_index_or}
use Rattle.std.specs.declared.net.socket_addr.SocketAddr.{SocketAddr}
use Rattle.ev_types.specs.declared.answer.ConnAnswer.{ConnAnswer}
use Rattle.ev_types.specs.declared.answer.ConnAnswer.TheVariants as conn
use Rattle.ev_types.specs.declared.answer.ReadAnswer.{ReadAnswer}
use Rattle.ev_types.specs.declared.answer.ReadAnswer.TheVariants as read
use Rattle.ev_types.specs.declared.answer.WriteAnswer.{WriteAnswer}
use Rattle.ev_types.specs.declared.answer.WriteAnswer.TheVariants as write
use Rattle.ev_port.specs.declared.port.Accepted.{Accepted}
use Rattle.ev_port.specs.declared.port.Accepted.TheVariants as accepted
use Rattle.mio_port.specs.declared.acceptor.NoLink.{NoLink}
use Rattle.mio_port.specs.declared.attempt.Attempt.TheVariants as attempt
use Rattle.mio_port.specs.declared.check.Check.TheVariants as check
use Rattle.mio_port.specs.declared.end.Connection.{Connection}
use Rattle.mio_port.specs.declared.end.Connection.TheVariants as connection
use Rattle.mio_port.specs.declared.end.End.{End}
use Rattle.mio_port.specs.declared.socket_call.SocketCall.TheVariants as call
use Rattle.mio_port.specs.EndPlaces.{undelayed_beside}
use Rattle.mio_port.specs.OneEnd.{faulty, fresh, read_end, written_end, checked_end}
use Rattle.mio_port.specs.ReadTurns.{other_end}
use Rattle.mio_port.specs.Sockets.{first_calls}

-- One of these changes was made.
abbrev pub OneOf : {T : Type 0} → T → T → T → T → Type 0
OneOf one two three new = (new ≡ one) ⊎ ((new ≡ two) ⊎ (new ≡ three))

-- The end behind one read of its connection that left its room so, by the answer: one that filled the room leaves it ready. One that came
-- to nothing would have blocked, was interrupted, or found no connection.
abbrev pub ReadLeft : List ℕ → ReadAnswer → End → End → Type 0
ReadLeft into (read.Got n) old new = new ≡ read_end old (attempt.Moved n) into
ReadLeft into read.Ended old new = new ≡ read_end old (attempt.Moved 0) into
ReadLeft into read.NotYet old new =
    OneOf (read_end old attempt.WouldBlock into) (read_end old attempt.Interrupted into) (read_end old attempt.Absent into) new
ReadLeft into read.Failed old new = new ≡ read_end old attempt.Failed into

-- The end behind one write of these bytes to its connection, by the answer: one that took them all leaves it ready, and it isn't behind. A
-- write that took none failed. It may be kept back where more follows.
abbrev pub WriteLeft : Bool → List ℕ → WriteAnswer → End → End → Type 0
WriteLeft more from (write.Took n) old new = new ≡ written_end more old (attempt.Moved n) from
WriteLeft more from write.NotYet old new =
    OneOf (written_end more old attempt.WouldBlock from) (written_end more old attempt.Interrupted from)
    (written_end more old attempt.Absent from) new
WriteLeft more from write.Failed old new =
    (new ≡ written_end more old (attempt.Moved 0) from) ⊎ (new ≡ written_end more old attempt.Failed from)
WriteLeft more from write.NoMemory old new = ⊥

-- The end behind one check of its connection, by the answer: one that failed drops the socket.
abbrev pub CheckLeft : ConnAnswer → End → End → Type 0
CheckLeft conn.Connected old new = new ≡ checked_end old check.Made
CheckLeft conn.Pending old new = OneOf (checked_end old check.Early) (checked_end old check.Unsure) (checked_end old check.Absent) new
CheckLeft conn.Failed old new = new ≡ record (faulty old) { connection = connection.Refused }

-- what a poll may tell of an end: a ready bit is set, and none is cleared
pub record Heard (old new : End) : Type 0 where
  pub rest : new ≡ record old { read_ready = new.read_ready; write_ready = new.write_ready; hung_up = new.hung_up }
  pub reads : old.read_ready ≡ true → new.read_ready ≡ true
  pub writes : old.write_ready ≡ true → new.write_ready ≡ true
  pub hung : old.hung_up ≡ true → new.hung_up ≡ true

-- an end that stood at a place was left so; where none stood, none stands
abbrev pub LeftAt : (End → End → Type 0) → Option End → Option End → Type 0
LeftAt left None place = place ≡ None
LeftAt left (Some old) None = ⊥
LeftAt left (Some old) (Some new) = left old new

-- the end at one place was left so, and every other place is as it was
pub record PlaceLeft (old new : List (Option End)) (place : ℕ) (left : End → End → Type 0) : Type 0 where
  pub own : LeftAt left (slice_index_or old place None) (slice_index_or new place None)
  pub others : (n : ℕ) → n ≢ place → slice_index_or new n None ≡ slice_index_or old n None

-- The end at one place was left so. But where the last of its reads that counts didn't fill its room, the system keeps nothing back of what
-- is written to its peer. Every other place is as it was.
pub record EndAndPeerLeft (old new : List (Option End)) (place : ℕ) (left : Option End → Option End → Type 0) : Type 0 where
  pub own : left (slice_index_or old place None) (slice_index_or new place None)
  pub peer : slice_index_or new (other_end place) None
      ≡ undelayed_beside (slice_index_or new place None) (slice_index_or old (other_end place) None)
  pub others : (n : ℕ) → n ≢ place → n ≢ other_end place → slice_index_or new n None ≡ slice_index_or old n None

abbrev pub AllHeard : List (Option End) → List (Option End) → Type 0
AllHeard old new = (n : ℕ) → LeftAt Heard (slice_index_or old n None) (slice_index_or new n None)

-- Ends that were just made

abbrev pub is_refused : Connection → Bool
is_refused (connection.Open socket) = false
is_refused connection.Refused = true
is_refused connection.Closed = false

-- it has a socket, which came to the listener and is reported under this number; nothing else was asked of it
abbrev pub HasCome : ℕ → Connection → Type 0
HasCome n (connection.Open socket) = socket.log.calls ≡ first_calls n call.Came
HasCome n connection.Refused = ⊥
HasCome n connection.Closed = ⊥

-- it has a socket whose connection was begun to this address and which is reported under this number, or none could be begun
abbrev pub IsBegun : ℕ → Option SocketAddr → Connection → Type 0
IsBegun n target (connection.Open socket) = MatchOption target ⊥ (λ to. socket.log.calls ≡ first_calls n (call.Began to))
IsBegun n target connection.Refused = ⊤
IsBegun n target connection.Closed = ⊥

-- the In end of a new link, by its number: the connection that came, of which nothing was reported
pub record IsNewIn (n : ℕ) (e : End) : Type 0 where
  pub came : HasCome n e.connection
  pub new : e ≡ fresh e.connection false

-- its Out end: a connection to the target that was begun; or none could be begun, and it stands ready for its check
pub record IsNewOut (n : ℕ) (target : Option SocketAddr) (e : End) : Type 0 where
  pub begun : IsBegun n target e.connection
  pub new : e ≡ fresh e.connection (is_refused e.connection)

-- an end stands at a place, and it is so
abbrev pub StandsAt : List (Option End) → ℕ → (End → Type 0) → Type 0
StandsAt ends n is = MatchOption (slice_index_or ends n None) ⊥ is

-- the ends of a link that was made stand in their places, each reported under its number, and the Out end goes to the target
abbrev pub NewEnds : List (Option End) → Option SocketAddr → ℕ → Accepted → Type 0
NewEnds ends target link (accepted.Link connected) =
    StandsAt ends (2 * link) (IsNewIn (2 * link)) × StandsAt ends (2 * link + 1) (IsNewOut (2 * link + 1) target)
NewEnds ends target link accepted.NotYet = ⊤
NewEnds ends target link accepted.Failed = ⊤
NewEnds ends target link accepted.NoMemory = ⊤

-- the two ends of a new link, In before Out
abbrev pub IsNewPair : ℕ → Option SocketAddr → Result (End × End) NoLink → Type 0
IsNewPair link target (Ok ends) = IsNewIn (2 * link) ends.0 × IsNewOut (2 * link + 1) target ends.1
IsNewPair link target (Err why) = ⊤
