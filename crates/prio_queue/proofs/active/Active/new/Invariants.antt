-- So many queues were made, all empty, and there is room for the others.
use Rattle.std.proofs.Common.{◌≡◌, [], map, replicate}
use Rattle.prio_queue.proofs.active.Active.new.Given as goal

abbrev pub invariant-loop : goal.invariant-loop
invariant-loop l = map (λ q. q.items) l.queues.items ≡ replicate l.counter []
