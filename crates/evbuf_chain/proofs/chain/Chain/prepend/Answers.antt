use Rattle.std.proofs.Common.{length, ap, arith, length-append}
use Rattle.evbuf_chain.specs.ChunkValue.{all_bytes}
use Rattle.evbuf_chain.proofs.chain.Chain.prepend.Goals as goal

pub invariant_of-self-2 : goal.invariant_of-self-2
invariant_of-self-2 c =
    omega (
      arith,
      ap length c.in_ok-put_before.ensures.bytes,
      length-append c.put_before.new.chunks.bytes c.put_before.new.own.items,
      length-append c.args.bytes.now (all_bytes c.self.inside.chunks c.self.inside.own),
      c.in_ok-put_before.ensures.spare,
      length-append c.self.inside.chunks.bytes c.self.inside.own.items,
      c.self.invariant,
      c.if-bytes-len.false,
      c.len.ensures.len,
      c.spare.ensures,
      ap (λ v. length v.bytes) c.self.view_is,
    )
