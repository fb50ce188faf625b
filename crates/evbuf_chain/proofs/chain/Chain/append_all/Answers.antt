use Rattle.std.proofs.Common.{length, ap, arith, length-append}
use Rattle.evbuf_chain.specs.ChunkValue.{all_bytes}
use Rattle.evbuf_chain.proofs.chain.Chain.append_all.Goals as goal

pub invariant_of-self : goal.invariant_of-self
invariant_of-self c =
    omega (
      arith,
      ap length c.put_behind.ensures.bytes,
      length-append c.put_behind.new.chunks.bytes c.put_behind.new.own.items,
      length-append (all_bytes c.self.inside.chunks c.self.inside.own) (all_bytes c.from.inside.chunks c.from.inside.own),
      c.put_behind.ensures.spare,
      c.requires,
      ap (λ v. length v.bytes) c.self.view_is,
      ap (λ v. length v.bytes) c.from.view_is,
    )
