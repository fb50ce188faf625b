use Rattle.std.proofs.Common.{sym}
use Rattle.logging_relay.proofs.program.run.Goals as goal

pub returns-in-Ok-clause-relayed : goal.returns-in-Ok-clause-relayed
returns-in-Ok-clause-relayed g c = rw c.in-Ok.is (rw (sym c.deref.ensures.value) c.run_by.ensures.relayed)
