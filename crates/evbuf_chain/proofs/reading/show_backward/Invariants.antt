use Rattle.std.proofs.Common.{◌≡◌, ◌++◌, ◌-◌, ◌≤◌, take, length, reverse}
use Rattle.evbuf_chain.specs.ChunkValue.{chunk_bytes}
use Rattle.evbuf_chain.specs.Buffered.{joined}
use Rattle.evbuf_chain.proofs.reading.show_backward.Given as goal

abbrev pub invariant-loop-node : goal.invariant-loop-node
invariant-loop-node l = record {
  shown : take (l.n - (l.place - length (chunk_bytes (reverse l.at)))) (chunk_bytes (reverse l.at)) ++ joined (reverse l.turned.items)
      ≡ take (l.n - (l.fn.end - length (chunk_bytes (reverse l.fn.stack)))) (chunk_bytes (reverse l.fn.stack));
  within : length (chunk_bytes (reverse l.at)) ≤ l.place;
}

abbrev pub decreases-loop-node : goal.decreases-loop-node
decreases-loop-node l = length l.at
