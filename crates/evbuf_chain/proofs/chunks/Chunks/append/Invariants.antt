use Rattle.std.proofs.Common.{◌≡◌, ◌++◌}
use Rattle.evbuf_chain.proofs.chunks.Chunks.append.Given as goal

abbrev pub invariant-loop-node : goal.invariant-loop-node
invariant-loop-node l = record {
  bytes : l.self.bytes ++ l.from.bytes ≡ l.fn.self.bytes ++ l.fn.from.bytes;
  marks : l.self.marks ++ l.from.marks ≡ l.fn.self.marks ++ l.fn.from.marks;
}

abbrev pub decreases-loop-node : goal.decreases-loop-node
decreases-loop-node l = l.from.count
