use Rattle.std.proofs.Common.{◌≡◌, []}
use Rattle.ev_port.specs.StreamBytes.{Gave}
use Rattle.ev_port.proofs.standard.StdSourceSource.read.Given as goal

-- an interrupted read gives nothing and is no fault
abbrev pub invariant-loop-try : goal.invariant-loop-try
invariant-loop-try g l = record {
  nothing_given : Gave (g.R.Read.remaining l.initial.self.reader) (g.R.Read.remaining l.self.reader) [];
  no_fault : l.self.faults ≡ l.initial.self.faults;
}
