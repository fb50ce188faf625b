use Rattle.std.proofs.Common.{ap}
use Rattle.told_port.specs.Calls.{ends_by}
use Rattle.told_port.proofs.TableLemmas.{table-told}
use Rattle.told_port.proofs.telling_port.TellingPortPort.poll_table.Goals as goal

pub returns-clause-went : goal.returns-clause-went
returns-clause-went g c =
    let inner = c.poll_table-answer in
    table-told c.args.wants.now inner.new.wants c.args.timeout inner.result (g.P.Port.ends c.args.self.now.inner) (g.P.Port.ends inner.new.self)
    (ends_by c.args.self.now.log.calls) (ends_by c.then_table-self.result.calls) (g.P.Port.vouches c.args.self.now.inner)
    (g.P.Port.vouches inner.new.self) inner.ensures.rows inner.ensures.went (ap (λ calls. ends_by calls) c.then_table-self.ensures)
