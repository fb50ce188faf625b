-- Only the queue of the priority changed.
use Rattle.std.proofs.Common.{rules, length, take, ◌-◌}
use Rattle.prio_queue.proofs.QueueLemmas.{changed_at}
use Rattle.prio_queue.proofs.active.Active.pop_last.Goals as goal

pub returns-clause-left : goal.returns-clause-left
returns-clause-left c =
    rw (← c.self.view_is)
    (changed_at (λ q. q.items) (λ q. take (length q - 1) q) c.self.inside.queues.items c.args.priority c.in_ok-get_mut.field-0.now
    c.pop_back.new.self
    (search rules) c.in_ok-get_mut.ensures.value (rw (← c.in_ok-get_mut.field-0.now.ok.0) c.pop_back.ensures.rest))
