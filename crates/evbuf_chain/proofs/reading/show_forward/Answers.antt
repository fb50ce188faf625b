use Rattle.std.proofs.Common.{◌≤◌, ◌++◌, take, length, length-append, length-take, refl, ap, sym, ◌∙◌, arith}
use Rattle.evbuf_chain.specs.ChunkValue.{chunk_bytes}
use Rattle.evbuf_chain.specs.Buffered.{joined}
use Rattle.evbuf_chain.proofs.ShownLemmas.{shown-next}
use Rattle.evbuf_chain.proofs.reading.show_forward.Goals as goal

pub loop-left-preserved : goal.loop-left-preserved
loop-left-preserved c =
    let chunk = c.in-Some.node.now.chunk.bytes in
    let more = chunk_bytes c.in-Some.node.now.below in
    let here = ap chunk_bytes c.in-Some.ensures.some in
    let bytes = c.first-bytes.ensures ∙ ap (λ bs. take c.loop-left.left bs) c.as_slice.ensures in
    let few : length c.first-bytes.result.now ≤ length chunk = omega (arith, ap length bytes, length-take c.loop-left.left chunk) in (
      shown-next c.loop-left.slices.items c.push.new.self.items c.first-bytes.result c.loop-left.left (length c.first-bytes.result.now)
          chunk more c.in_ok-push.ensures.ok bytes refl
          ∙ ap (λ bs. joined c.loop-left.slices.items ++ take c.loop-left.left bs) (sym here)
          ∙ c.loop-left.invariant.0,
      omega (arith, c.loop-left.invariant.1, ap length here, length-append chunk more, few),
    )
