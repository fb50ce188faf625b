use Rattle.std.proofs.Common.{◌-◌, ap, ◌∙◌, reverse}
use Rattle.evbuf_chain.specs.ChunkValue.{chunk_bytes}
use Rattle.evbuf_chain.specs.Covered.{covered}
use Rattle.evbuf_chain.proofs.ChunkLemmas.{chunk_bytes-reverse}
use Rattle.evbuf_chain.proofs.CoveredLemmas.{Backward-next}
use Rattle.evbuf_chain.proofs.reading.copy_backward.Goals as goal

pub loop-node-preserved : goal.loop-node-preserved
loop-node-preserved c =
    Backward-next (chunk_bytes (reverse c.args.stack.now)) c.args.end c.loop-node.place
    (chunk_bytes (reverse c.loop-node.at.now)) c.args.from
    c.args.window.now c.loop-node.window c.copy_part.new.window (chunk_bytes (reverse c.in-Some.node.now.below))
    c.in-Some.node.now.chunk.bytes c.len-place.result c.loop-node.invariant
    (ap (λ ps. chunk_bytes (reverse ps)) c.in-Some.ensures.some ∙ chunk_bytes-reverse c.in-Some.node.now.chunk c.in-Some.node.now.below)
    c.len-place.ensures.len
    (c.copy_part.ensures ∙ ap (λ bs. covered (c.loop-node.place - c.len-place.result) bs c.args.from c.loop-node.window) c.as_slice.ensures)
