-- The listener: when it can be asked for a link, and after each call on it.
use Rattle.std.specs.Prelude.{◌≡◌, ℕ, Bool, true, false, ◌&&◌, nat_le, is_none, Option, Some, None, if◌then◌else◌}
use Rattle.std.specs.IoError.{error_kind, raw_os_error}
use Rattle.std.specs.declared.io.Error.{Error}
use Rattle.std.specs.declared.io.ErrorKind.{ErrorKind}
use Rattle.std.specs.declared.io.ErrorKind.TheVariants as kind
use Rattle.std.specs.declared.net.socket_addr.SocketAddr.TheVariants.{V4, V6}
use Rattle.std.specs.Net.Addr.{ipv4_octets}
use Rattle.std.specs.Net.Socket.{v4_ip, v4_port}
use Rattle.std.specs.declared.net.socket_addr.SocketAddr.{SocketAddr}
use Rattle.ev_port.specs.Counting.{counted, risen_if}
use Rattle.ev_types.specs.declared.addr.Addr.{Addr}
use Rattle.mio_port.specs.declared.acceptor.NoLink.{NoLink}
use Rattle.mio_port.specs.declared.acceptor.NoLink.TheVariants as no_link
use Rattle.mio_port.specs.declared.acceptor.Acceptor.{Acceptor}
use Rattle.mio_port.specs.declared.acceptor.Listener.{Listener}
use Rattle.mio_port.specs.Scarcity.{is_scarce, came_broken}

-- no listener, after so many faults
abbrev pub shut_acceptor : ℕ → Acceptor
shut_acceptor faults = record { listener = None; target = None; ready = false; paused_to = None; faults = faults }

-- a listener that was just made
abbrev pub opened_acceptor : Listener → SocketAddr → ℕ → Acceptor
opened_acceptor listener target faults =
    record { listener = Some listener; target = Some target; ready = false; paused_to = None; faults = faults }

abbrev pub is_open : Acceptor → Bool
is_open d = d.ready && is_none d.paused_to

-- a pause that reached its end is over
abbrev pub pause_after : Option ℕ → ℕ → Option ℕ
pause_after None time = None
pause_after (Some to) time = if nat_le to time then None else Some to

abbrev pub after_time : Acceptor → ℕ → Acceptor
after_time d time = record d { paused_to = pause_after d.paused_to time }

-- it met one more fault
abbrev pub faulty_acceptor : Acceptor → Acceptor
faulty_acceptor d = record d { faults = risen_if true d.faults }

-- paused for 100 milliseconds from this time on
abbrev pub paused_acceptor : Acceptor → ℕ → Acceptor
paused_acceptor d time = record d { paused_to = Some (counted time 100) }

-- it was asked for a link at this time and gave none: it isn't ready where none waits, and paused where the system is short
abbrev pub refused_acceptor : Acceptor → NoLink → ℕ → Acceptor
refused_acceptor d no_link.NoneWaits time = record d { ready = false }
refused_acceptor d no_link.Again time = d
refused_acceptor d no_link.Scarce time = paused_acceptor d time
refused_acceptor d no_link.Failed time = faulty_acceptor d

-- a poll that ended at this time ends a pause that is over, and may tell that a link waits
pub record AcceptorHeard (old new : Acceptor) (time : ℕ) : Type 0 where
  pub rest : new ≡ record old { ready = new.ready; paused_to = new.paused_to }
  pub ready : old.ready ≡ true → new.ready ≡ true
  pub paused : new.paused_to ≡ pause_after old.paused_to time

-- what an error of an accept says, by its kind and by whether the system is short of something or the connection came broken: none
-- waits, another may wait, the system is short, or it failed
abbrev pub no_link_of_kind : ErrorKind → Bool → Bool → NoLink
no_link_of_kind kind.WouldBlock scarce broken = no_link.NoneWaits
no_link_of_kind kind.Interrupted scarce broken = no_link.Again
no_link_of_kind kind.ConnectionAborted scarce broken = no_link.Again
no_link_of_kind _ scarce broken = if scarce then no_link.Scarce else (if broken then no_link.Again else no_link.Failed)

-- the same by the error itself
abbrev pub no_link_of : Error → NoLink
no_link_of error = no_link_of_kind (error_kind error) (is_scarce (raw_os_error error)) (came_broken (raw_os_error error))

-- an IPv4 address with its port; no other address is told
abbrev pub addr_of : SocketAddr → Option Addr
addr_of (V4 a) = Some (record { ip = ipv4_octets (v4_ip a); port = v4_port a })
addr_of (V6 a) = None
