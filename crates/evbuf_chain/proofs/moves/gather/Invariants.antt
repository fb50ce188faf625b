use Rattle.std.proofs.Common.{◌≡◌, ◌≤◌, ◌+◌, ◌++◌, take}
use Rattle.evbuf_chain.specs.ChunkValue.{tickets_of}
use Rattle.evbuf_chain.proofs.DrainLemmas.{Drains}
use Rattle.evbuf_chain.proofs.moves.gather.Given as goal

abbrev pub invariant-loop-left : goal.invariant-loop-left
invariant-loop-left l = record {
  drains : Drains l.fn.chunks (tickets_of l.fn.ended) l.fn.n l.left l.chunks (tickets_of l.ended);
  into : l.into.items ++ take l.left l.chunks.bytes ≡ l.fn.into.items ++ take l.fn.n l.fn.chunks.bytes;
  room : l.into.spare + l.fn.n ≡ l.fn.into.spare + l.left;
  within : l.left ≤ l.fn.n;
}

abbrev pub decreases-loop-left : goal.decreases-loop-left
decreases-loop-left l = l.chunks.count
