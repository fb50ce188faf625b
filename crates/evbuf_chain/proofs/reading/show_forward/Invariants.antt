use Rattle.std.proofs.Common.{◌≡◌, ◌+◌, ◌≤◌, ◌++◌, take, length}
use Rattle.evbuf_chain.specs.ChunkValue.{chunk_bytes}
use Rattle.evbuf_chain.specs.Buffered.{joined}
use Rattle.evbuf_chain.proofs.reading.show_forward.Given as goal

abbrev pub invariant-loop-left : goal.invariant-loop-left
invariant-loop-left l =
    (joined l.slices.items ++ take l.left (chunk_bytes l.at) ≡ joined l.fn.slices.items ++ take l.fn.n (chunk_bytes l.fn.stack))
    × (l.fn.n + length (chunk_bytes l.at) ≤ l.left + length (chunk_bytes l.fn.stack))

abbrev pub decreases-loop-left : goal.decreases-loop-left
decreases-loop-left l = length l.at
