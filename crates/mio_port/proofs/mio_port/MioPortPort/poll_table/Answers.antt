use Rattle.mio_port.proofs.TableMarkLemmas.{table-polled}
use Rattle.mio_port.proofs.mio_port.MioPortPort.poll_table.Goals as goal

pub returns-clause-went : goal.returns-clause-went
returns-clause-went g c =
    table-polled _ _ _ _ _ c.args.timeout _ _ _ c.table_ready_for.ensures.marked (λ plan t was. was)
