-- One call of the system on a socket.
use Rattle.std.specs.Prelude.{ℕ, List}
use Rattle.mio_port.specs.declared.socket_call.SocketCall.{SocketCall}

-- a call that was made, with the bytes that it was given, as it left them
abbrev pub CallMade : Type 0
CallMade = SocketCall × List ℕ
