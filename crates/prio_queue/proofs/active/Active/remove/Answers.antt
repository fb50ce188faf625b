-- One more queue has lost the key.
use Rattle.std.proofs.Common.{ap, ◌==◌, not, map, get_or, filter, arith}
use Rattle.prio_queue.proofs.QueueLemmas.{begun_step}
use Rattle.prio_queue.proofs.active.Active.remove.Goals as goal

pub loop-queue-preserved : goal.loop-queue-preserved
loop-queue-preserved c =
    let queues = c.loop-queue.queue-items in let at = c.loop-queue.queue-index in
    begun_step (λ q. q.items) (filter (λ other. not (other == c.args.key))) at queues (map (λ q. q.items)
    c.deref_mut-queue-items.result.now)
    (get_or queues at c.queue-item.result) c.drop_key.new.queue
    (omega arith) c.loop-queue.invariant (ap (λ q. get_or queues at q) c.queue-item.is) c.drop_key.ensures
