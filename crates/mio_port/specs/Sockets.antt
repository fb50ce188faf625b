-- What a socket tells that the system was asked of it, and what one read and one write do to a stream that tells its bytes.
use Rattle.std.specs.Prelude.{◌≡◌, ℕ, ◌<◌, List, [], ◌∷◌, length, take, Option}
use Rattle.std.specs.Io.KnownBytes.{Appends, Consumes, IsAtEnd, Keeps}
use Rattle.mio_port.specs.declared.attempt.Attempt.{Attempt}
use Rattle.mio_port.specs.declared.attempt.Attempt.TheVariants as attempt
use Rattle.mio_port.specs.declared.socket.Socket.{Socket}
use Rattle.mio_port.specs.declared.socket_call.SocketCall.{SocketCall}
use Rattle.mio_port.specs.declared.socket_call.SocketCall.TheVariants as call
use Rattle.mio_port.specs.SocketCalls.{CallMade}

-- a socket of which one more call was made
abbrev pub with_call : Socket → CallMade → Socket
with_call s x = record s { log = record { calls = x ∷ s.log.calls } }

-- it was asked that short writes aren't kept back, and that it is reported under this number
abbrev pub watched : Socket → ℕ → Socket
watched s n = with_call (with_call s (call.Undelayed, [])) (call.Watched n, [])

-- all that was asked of a socket which was made so and is reported under this number, the last call first
abbrev pub first_calls : ℕ → SocketCall → List CallMade
first_calls n made = (call.Watched n, []) ∷ (call.Undelayed, []) ∷ (made, []) ∷ []

-- one read took the bytes that it gave from what was left and no others, and none only at the end or with no room
abbrev pub Gave : Option (List ℕ) → Option (List ℕ) → Attempt → List ℕ → Type 0
Gave old new (attempt.Moved n) into = Consumes old new (take n into) × (n ≡ 0 → 0 < length into → IsAtEnd new)
Gave old new attempt.WouldBlock into = Keeps old new
Gave old new attempt.Interrupted into = Keeps old new
Gave old new attempt.Failed into = Keeps old new
Gave old new attempt.Absent into = ⊥

-- one write put the bytes that it took behind those before, once
abbrev pub Took : Option (List ℕ) → Option (List ℕ) → Attempt → List ℕ → Type 0
Took old new (attempt.Moved n) from = Appends old new (take n from)
Took old new attempt.WouldBlock from = Keeps old new
Took old new attempt.Interrupted from = Keeps old new
Took old new attempt.Failed from = Keeps old new
Took old new attempt.Absent from = ⊥
