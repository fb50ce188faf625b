use Rattle.std.proofs.Common.{Option, subst, sym}
use Rattle.std.specs.declared.alloc.Global.{Global}
use Rattle.std.specs.declared.vec.Vec.{Vec}
use Rattle.mio_port.specs.declared.end.End.{End}
use Rattle.mio_port.specs.ReadTurns.{SomeMarked}
use Rattle.mio_port.proofs.SomeMarkedLemmas.{ready-marked}
use Rattle.mio_port.proofs.mio_port.MioPort.table_ready_for.Goals as goal

pub returns-in-Ready-clause-some : goal.returns-in-Ready-clause-some
returns-in-Ready-clause-some g c =
    subst (λ (e : Vec (Option End) Global). SomeMarked e.items c.args.wants.now c.mark_table-self.new.wants c.wait-polled.result)
    (sym c.mark_table-self.ensures.stays)
    (ready-marked c.wait-polled.new.self.ends.ends.items c.wait-polled.new.self.turn c.mark_table-self.result c.args.wants.now
    c.mark_table-self.new.wants c.wait-polled.result c.mark_table-self.ensures.listed)
