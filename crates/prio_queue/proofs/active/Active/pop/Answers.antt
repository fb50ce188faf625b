-- Only the queue of the priority changed.
use Rattle.std.proofs.Common.{rules}
use Rattle.prio_queue.proofs.QueueLemmas.{popped_at}
use Rattle.prio_queue.proofs.active.Active.pop.Goals as goal

pub returns-clause-left : goal.returns-clause-left
returns-clause-left c =
    rw (← c.self.view_is)
    (popped_at (λ q. q.items) c.self.inside.queues.items c.args.priority c.in_ok-get_mut.field-0.now c.pop_front.new.self
    (search rules) c.in_ok-get_mut.ensures.value c.pop_front.ensures.rest)
