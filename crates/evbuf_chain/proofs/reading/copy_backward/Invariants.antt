use Rattle.std.proofs.Common.{length, reverse}
use Rattle.evbuf_chain.specs.ChunkValue.{chunk_bytes}
use Rattle.evbuf_chain.proofs.CoveredLemmas.{Backward}
use Rattle.evbuf_chain.proofs.reading.copy_backward.Given as goal

abbrev pub invariant-loop-node : goal.invariant-loop-node
invariant-loop-node l =
    Backward (chunk_bytes (reverse l.fn.stack)) l.fn.end l.place (chunk_bytes (reverse l.at)) l.from l.fn.window l.window

abbrev pub decreases-loop-node : goal.decreases-loop-node
decreases-loop-node l = length l.at
