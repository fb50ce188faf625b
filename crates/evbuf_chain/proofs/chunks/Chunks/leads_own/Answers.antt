use Rattle.std.proofs.Common.{◌++◌, length, take, ap, sym, ◌∙◌, arith, length-append}
use Rattle.std.proofs.lemmas.List.{take-append-le}
use Rattle.evbuf_chain.proofs.chunks.Chunks.leads_own.Goals as goal

pub push_front-requires : goal.push_front-requires
push_front-requires c =
    omega (
      arith,
      ap length c.in-Some.ensures.bytes,
      length-append c.in-Some.node.value.chunk.bytes c.pop_front.new.self.bytes,
      c.len-fits.ensures.fits,
    )

pub returns-clause-own : goal.returns-clause-own
returns-clause-own c = λ yes.
    let within = c.leads_own-leads.ensures.within yes in
    ap (λ ms. take c.args.n ms)
    (c.in-Some.ensures.marks ∙ ap (λ node. node.chunk.marks ++ c.pop_front.new.self.marks) (sym c.deref.ensures))
    ∙ take-append-le c.args.n c.deref.result.now.chunk.marks c.pop_front.new.self.marks
    (omega (arith, within, c.leads_own-leads.ensures.marked))
    ∙ c.leads_own-leads.ensures.own yes
