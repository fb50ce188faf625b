use Rattle.std.proofs.Common.{◌≡◌, ◌++◌, reverse, length}
use Rattle.evbuf_chain.proofs.queue.turn.Given as goal

abbrev pub invariant-loop-node : goal.invariant-loop-node
invariant-loop-node l = reverse l.from ++ l.onto ≡ reverse l.fn.from ++ l.fn.onto

abbrev pub decreases-loop-node : goal.decreases-loop-node
decreases-loop-node l = length l.from
