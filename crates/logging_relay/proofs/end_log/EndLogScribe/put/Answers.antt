use Rattle.std.proofs.Math.Logic.{∥∥₁_map}
use Rattle.logging_relay.proofs.LogLemmas.{log-more}
use Rattle.logging_relay.proofs.end_log.EndLogScribe.put.Goals as goal

pub invariant_of-self-clause-logged : goal.invariant_of-self-clause-logged
invariant_of-self-clause-logged g c =
    let log = c.args.self.now in
    rw c.then-self.ensures
    (∥∥₁_map log.logged (λ was. log-more g.K.Sink log.told.trace (c.args.entry, c.args.bytes.now) log.out c.log_end.new.out was
    c.log_end.ensures.logged))
