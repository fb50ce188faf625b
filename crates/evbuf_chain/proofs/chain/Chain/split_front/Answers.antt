use Rattle.std.proofs.Common.{length, take, ap, arith, length-append, length-drop, length-take}
use Rattle.evbuf_chain.specs.ChunkValue.{all_bytes}
use Rattle.evbuf_chain.proofs.chain.Chain.split_front.Goals as goal

pub invariant_of-self-2 : goal.invariant_of-self-2
invariant_of-self-2 c =
    omega (
      arith,
      ap length c.in_ok-move_front.ensures.bytes,
      length-append c.move_front.new.chunks.bytes c.move_front.new.own.items,
      length-append c.self.inside.chunks.bytes c.self.inside.own.items,
      length-drop c.min-n.result (all_bytes c.self.inside.chunks c.self.inside.own),
      c.in_ok-move_front.ensures.spare,
      c.self.invariant,
    )

pub invariant_of-to-2 : goal.invariant_of-to-2
invariant_of-to-2 c =
    let all = all_bytes c.self.inside.chunks c.self.inside.own in
    omega (
      arith,
      ap length c.in_ok-move_front.ensures.to_bytes,
      length-append c.move_front.new.to.bytes c.move_front.new.to_own.items,
      length-append (all_bytes c.to.inside.chunks c.to.inside.own) (take c.min-n.result all),
      length-take c.min-n.result all,
      c.in_ok-move_front.ensures.ok_spare,
      c.in_ok-fits.ensures.room,
      ap (λ v. length v.bytes) c.to.view_is,
    )
