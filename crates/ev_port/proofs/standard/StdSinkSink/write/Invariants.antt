use Rattle.std.proofs.Common.{◌≡◌, []}
use Rattle.ev_port.specs.StreamBytes.{TookOn}
use Rattle.ev_port.proofs.standard.StdSinkSink.write.Given as goal

-- an interrupted write takes nothing and is no fault
abbrev pub invariant-loop-try : goal.invariant-loop-try
invariant-loop-try g l = record {
  nothing_taken : TookOn (g.W.Write.contents l.initial.self.writer) (g.W.Write.contents l.self.writer) [];
  no_fault : l.self.faults ≡ l.initial.self.faults;
}
