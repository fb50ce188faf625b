use Rattle.evbuf_chain.specs.ChunkValue.{tickets_of}
use Rattle.evbuf_chain.proofs.DrainLemmas.{Drains}
use Rattle.evbuf_chain.proofs.moves.drain.Given as goal

abbrev pub invariant-loop-left : goal.invariant-loop-left
invariant-loop-left l = Drains l.fn.chunks (tickets_of l.fn.ended) l.fn.n l.left l.chunks (tickets_of l.ended)

abbrev pub decreases-loop-left : goal.decreases-loop-left
decreases-loop-left l = l.chunks.count
