use Rattle.evbuf_chain.specs.Leaving.{MovesWhole}
use Rattle.evbuf_chain.proofs.moves.move_whole.Given as goal

abbrev pub invariant-loop-left : goal.invariant-loop-left
invariant-loop-left l = MovesWhole l.fn.chunks l.fn.moved l.fn.n l.left l.chunks l.moved

abbrev pub decreases-loop-left : goal.decreases-loop-left
decreases-loop-left l = l.chunks.count
