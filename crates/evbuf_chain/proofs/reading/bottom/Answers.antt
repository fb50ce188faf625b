use Rattle.std.proofs.Common.{ap, sym, ◌∙◌}
use Rattle.evbuf_chain.proofs.ChunkLemmas.{bottom_bytes, bottom_bytes-first}
use Rattle.evbuf_chain.proofs.reading.bottom.Goals as goal

pub returns : goal.returns
returns c =
    sym (ap (bottom_bytes c.loop-node.lowest.now) c.in_default.ensures.none) ∙ c.loop-node.invariant ∙ bottom_bytes-first c.args.stack.now
