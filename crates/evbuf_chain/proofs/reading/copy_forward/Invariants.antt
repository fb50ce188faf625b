use Rattle.std.proofs.Common.{length}
use Rattle.evbuf_chain.specs.ChunkValue.{chunk_bytes}
use Rattle.evbuf_chain.proofs.CoveredLemmas.{Forward}
use Rattle.evbuf_chain.proofs.reading.copy_forward.Given as goal

abbrev pub invariant-loop-place : goal.invariant-loop-place
invariant-loop-place l = Forward (chunk_bytes l.fn.stack) l.place (chunk_bytes l.at) l.from l.fn.window l.window

abbrev pub decreases-loop-place : goal.decreases-loop-place
decreases-loop-place l = length l.at
