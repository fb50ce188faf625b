use Rattle.std.proofs.Common.{◌∷◌, ap, sym, ◌∙◌}
use Rattle.evbuf_chain.proofs.ChunkLemmas.{IsChunks-pop_front}
use Rattle.evbuf_chain.proofs.chunks.Chunks.pop_front.Goals as goal

pub invariant_of-self-2 : goal.invariant_of-self-2
invariant_of-self-2 c =
    IsChunks-pop_front c.self.inside.queue c.pop_front.new.self c.deref.result.now.chunk c.self.inside.len c.len.result c.self.invariant
    (c.in_ok-node.ensures.some ∙ ap (λ node. node.chunk ∷ c.pop_front.new.self) (sym c.deref.ensures)) c.len.ensures.len
    c.len.ensures.marked
