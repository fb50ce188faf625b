-- So many of the queues have lost the key; the others are as they were.
use Rattle.std.proofs.Common.{◌≡◌, ◌==◌, not, filter, map}
use Rattle.prio_queue.proofs.QueueLemmas.{begun}
use Rattle.prio_queue.proofs.active.Active.remove.Given as goal

abbrev pub invariant-loop-queue : goal.invariant-loop-queue
invariant-loop-queue l =
    map (λ q. q.items) l.queue-items
    ≡ begun (filter (λ other. not (other == l.key))) l.queue-index (map (λ q. q.items) l.initial.queue-items)
