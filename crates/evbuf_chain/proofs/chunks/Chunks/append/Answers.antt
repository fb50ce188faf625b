use Rattle.std.proofs.Common.{ap, arith, length, length-append}
use Rattle.evbuf_chain.proofs.chunks.Chunks.append.Goals as goal

pub push_back-requires : goal.push_back-requires
push_back-requires c =
    omega (
      arith,
      ap length c.in-Some.ensures.bytes,
      length-append c.in-Some.node.value.chunk.bytes c.pop_front.new.self.bytes,
      ap length c.loop-node.invariant.bytes,
      length-append c.loop-node.self.bytes c.loop-node.from.bytes,
      length-append c.args.self.now.bytes c.args.from.now.bytes,
      c.requires,
    )
