use Rattle.std.proofs.Math.Logic.{∥∥₁_map}
use Rattle.ev_port.specs.Table.{named}
use Rattle.logging_relay.proofs.LogLemmas.{log-wants}
use Rattle.logging_relay.proofs.end_log.EndLogScribe.put_wants.Goals as goal

pub invariant_of-self-clause-logged : goal.invariant_of-self-clause-logged
invariant_of-self-clause-logged g c =
    let log = c.args.self.now in
    rw c.then_wants-self.ensures (∥∥₁_map log.logged (log-wants g.K.Sink (named c.args.wants.now) log.told.trace log.out))
