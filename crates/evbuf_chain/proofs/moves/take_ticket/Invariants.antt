use Rattle.std.proofs.Common.{◌≡◌, length}
use Rattle.evbuf_chain.specs.ChunkValue.{tickets_of}
use Rattle.evbuf_chain.proofs.moves.take_ticket.Given as goal

abbrev pub invariant-loop-node : goal.invariant-loop-node
invariant-loop-node l = tickets_of l.ended ≡ tickets_of l.fn.ended

abbrev pub decreases-loop-node : goal.decreases-loop-node
decreases-loop-node l = length l.ended
