use Rattle.std.proofs.Common.{◌≡◌, length, []}
use Rattle.evbuf_chain.proofs.ChunkLemmas.{bottom_bytes}
use Rattle.evbuf_chain.proofs.reading.bottom.Given as goal

abbrev pub invariant-loop-node : goal.invariant-loop-node
invariant-loop-node l = bottom_bytes l.lowest l.at ≡ bottom_bytes [] l.fn.stack

abbrev pub decreases-loop-node : goal.decreases-loop-node
decreases-loop-node l = length l.at
