use Rattle.std.proofs.Common.{◌≡◌, true}
use Rattle.std.specs.Slice.Iter.{iter_rest}
use Rattle.mio.specs.Events.{items}
use Rattle.mio_port.specs.EndLeft.{AllHeard}
use Rattle.mio_port.specs.EndPlaces.{CountsStay}
use Rattle.mio_port.proofs.ReportLemmas.{StillToTell}
use Rattle.mio_port.proofs.kernel.Kernel.tell.Given as goal

-- no report raises a count, or takes anything from an end or from the listener; what was passed on is told
abbrev pub invariant-loop-event : goal.invariant-loop-event
invariant-loop-event l = record {
  ends : CountsStay l.initial.ends.ends.items l.ends.ends.items;
  acceptor : l.acceptor.faults ≡ l.initial.acceptor.faults;
  heard : AllHeard l.initial.ends.ends.items l.ends.ends.items;
  listener : l.acceptor ≡ record l.initial.acceptor { ready = l.acceptor.ready };
  waits : l.initial.acceptor.ready ≡ true → l.acceptor.ready ≡ true;
  told : StillToTell (iter_rest l.event-iterator) (items l.self.events) l.initial.ends.ends.items l.ends.ends.items l.initial.acceptor.ready l.acceptor.ready;
}
