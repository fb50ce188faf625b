-- Only the queue of the priority changed, where one did.
use Rattle.std.proofs.Common.{rules}
use Rattle.std.proofs.lemmas.Result.{err_from_is_err_and}
use Rattle.prio_queue.proofs.QueueLemmas.{activated_at, kept_at}
use Rattle.prio_queue.proofs.active.Active.activate.Goals as goal

pub returns-in_err-push_back-clause-err : goal.returns-in_err-push_back-clause-err
returns-in_err-push_back-clause-err c =
    let p = err_from_is_err_and c.from_residual.result c.from_residual.ensures.1 in
    rw (p.1, ← c.self.view_is)
    (kept_at (λ q. q.items) c.self.inside.queues.items c.args.priority c.index_mut.result.now c.push_back.new.self
    c.index_mut.ensures.value c.in_err-push_back.ensures.items)

pub returns-in_ok-push_back-clause-ok : goal.returns-in_ok-push_back-clause-ok
returns-in_ok-push_back-clause-ok c =
    rw (← c.self.view_is)
    (activated_at (λ q. q.items) c.self.inside.queues.items c.args.priority c.index_mut.result.now c.push_back.new.self c.args.key
    (search rules) c.index_mut.ensures.value c.in_ok-push_back.ensures.items (rw c.self.view_is (search rules)))
