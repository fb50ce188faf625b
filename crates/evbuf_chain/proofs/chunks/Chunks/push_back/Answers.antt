use Rattle.std.proofs.Common.{◌++◌, ◌∷◌, [], ap, sym, ◌∙◌}
use Rattle.evbuf_chain.proofs.ChunkLemmas.{IsChunks-push_back}
use Rattle.evbuf_chain.proofs.chunks.Chunks.push_back.Goals as goal

pub invariant_of-self : goal.invariant_of-self
invariant_of-self c =
    IsChunks-push_back c.self.inside.queue c.push_back.new.self c.deref.result.now.chunk c.self.inside.len c.len.result c.self.invariant
    (c.push_back.ensures ∙ ap (λ node. c.self.inside.queue ++ node.chunk ∷ [])
    (sym c.deref.ensures)) c.len.ensures.len c.len.ensures.marked c.len.ensures.whole
