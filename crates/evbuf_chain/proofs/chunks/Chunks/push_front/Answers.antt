use Rattle.std.proofs.Common.{◌∷◌, ap, sym, ◌∙◌}
use Rattle.evbuf_chain.proofs.ChunkLemmas.{IsChunks-push_front}
use Rattle.evbuf_chain.proofs.chunks.Chunks.push_front.Goals as goal

pub invariant_of-self : goal.invariant_of-self
invariant_of-self c =
    IsChunks-push_front c.self.inside.queue c.push_front.new.self c.deref.result.now.chunk c.self.inside.len c.len.result c.self.invariant
    (c.push_front.ensures
    ∙ ap (λ node. node.chunk ∷ c.self.inside.queue) (sym c.deref.ensures)) c.len.ensures.len c.len.ensures.marked c.len.ensures.whole
