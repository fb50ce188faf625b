-- Only the queue of the priority changed, where one did.
use Rattle.std.proofs.Common.{rules, ◌++◌, ◌∷◌, []}
use Rattle.std.proofs.lemmas.Result.{err_from_is_err_and}
use Rattle.prio_queue.proofs.QueueLemmas.{changed_at, kept_at}
use Rattle.prio_queue.proofs.active.Active.append.Goals as goal

pub returns-in_err-push_back-clause-err : goal.returns-in_err-push_back-clause-err
returns-in_err-push_back-clause-err c =
    let p = err_from_is_err_and c.from_residual.result c.from_residual.ensures.1 in
    rw (p.1, ← c.self.view_is)
    (kept_at (λ q. q.items) c.self.inside.queues.items c.args.priority c.index_mut.result.now c.push_back.new.self
    c.index_mut.ensures.value c.in_err-push_back.ensures.items)

pub returns-clause-ok : goal.returns-clause-ok
returns-clause-ok c =
    rw (← c.self.view_is)
    (changed_at (λ q. q.items) (λ q. q ++ c.args.key ∷ []) c.self.inside.queues.items c.args.priority c.index_mut.result.now
    c.push_back.new.self
    (search rules) c.index_mut.ensures.value c.in_ok-push_back.ensures.items)
