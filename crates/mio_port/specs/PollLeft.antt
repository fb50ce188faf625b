-- What a poll leaves of a port over sockets, whatever was wanted.
use Rattle.std.specs.Prelude.{◌≡◌, ◌≤◌, true, is_none}
use Rattle.ev_port.specs.declared.port.Polled.{Polled}
use Rattle.ev_port.specs.declared.port.Polled.TheVariants as polled
use Rattle.ev_port.specs.Counting.{risen_if}
use Rattle.ev_port.specs.Polling.{is_failed_poll}
use Rattle.mio_port.specs.declared.mio_port.MioPort.{MioPort}
use Rattle.mio_port.specs.Acceptor.{AcceptorHeard}
use Rattle.mio_port.specs.EndLeft.{AllHeard}
use Rattle.mio_port.specs.EndPlaces.{all_handed_on}

-- An end of writing that was pending is handed to the system. Else it takes nothing from an end and from the listener, but ends a pause
-- that is over. It fails before the first start, and its count rises by one where it fails.
pub record PollLeft {R : Type 0} (old new : MioPort R) (answer : Polled) : Type 0 where
  pub ends : AllHeard (all_handed_on old.ends.ends.items) new.ends.ends.items
  pub listener : AcceptorHeard old.acceptor new.acceptor new.clock.last
  pub steady : old.clock.last ≤ new.clock.last
  pub unstarted : is_none old.kernel ≡ true → answer ≡ polled.Failed
  pub counts : new.polling_faults ≡ risen_if (is_failed_poll answer) old.polling_faults
