use Rattle.std.proofs.Common.{length, take, refl, ap, arith, length-append, length-drop, length-take}
use Rattle.evbuf_chain.specs.ChunkValue.{tickets_of, all_bytes}
use Rattle.evbuf_chain.proofs.EndLemmas.{PullsUp-own}
use Rattle.evbuf_chain.proofs.ends.pull.Goals as goal

pub returns-then-leads_own-clause-pulled : goal.returns-then-leads_own-clause-pulled
returns-then-leads_own-clause-pulled c =
    PullsUp-own c.args.chunks.now c.leads_own.new.self c.args.own.now (tickets_of c.args.ended.now) c.args.n
    c.leads_own.ensures.bytes c.leads_own.ensures.marks (c.if-leads_own.ensures.run refl) (c.if-leads_own.ensures.own refl)

pub seal_front-requires-clause-fits : goal.seal_front-requires-clause-fits
seal_front-requires-clause-fits c =
    omega (
      arith,
      ap length c.take.ensures.bytes,
      length-append c.take.new.chunks.bytes c.take.new.own.items,
      length-drop c.args.n (all_bytes c.leads_own.new.self c.args.own.now),
      length-append c.leads_own.new.self.bytes c.args.own.now.items,
      length-append c.args.chunks.now.bytes c.args.own.now.items,
      ap length c.leads_own.ensures.bytes,
      ap length c.take.ensures.items,
      length-append c.reserve.new.self.items (take c.args.n (all_bytes c.leads_own.new.self c.args.own.now)),
      length-take c.args.n (all_bytes c.leads_own.new.self c.args.own.now),
      ap length c.in_ok-reserve.ensures.items,
      ap length c.new-block.ensures.items,
      c.requires.fits,
      c.requires.there,
    )
