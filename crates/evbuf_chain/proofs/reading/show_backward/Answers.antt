use Rattle.std.proofs.Common.{◌≡◌, ◌-◌, ◌++◌, take, length, reverse, ap, ◌∙◌, arith, length-append}
use Rattle.evbuf_chain.specs.ChunkValue.{chunk_bytes}
use Rattle.evbuf_chain.specs.Buffered.{joined}
use Rattle.evbuf_chain.proofs.ChunkLemmas.{chunk_bytes-reverse}
use Rattle.evbuf_chain.proofs.ShownLemmas.{shown-before, shown-past}
use Rattle.evbuf_chain.proofs.reading.show_backward.Goals as goal
use Rattle.evbuf_chain.proofs.reading.show_backward.Goals.{then-place-n+in_ok-push, else-place-n}

pub loop-node-preserved : goal.loop-node-preserved
loop-node-preserved c =
    let more = chunk_bytes (reverse c.in-Some.node.now.below) in
    let last = c.in-Some.node.now.chunk.bytes in
    let rest = chunk_bytes (reverse c.loop-node.at.now) in
    let all = take (c.args.n - (c.args.end - length (chunk_bytes (reverse c.args.stack.now)))) (chunk_bytes (reverse c.args.stack.now)) in
    let is : rest ≡ more ++ last =
    ap (λ ps. chunk_bytes (reverse ps)) c.in-Some.ensures.some ∙ chunk_bytes-reverse c.in-Some.node.now.chunk c.in-Some.node.now.below in
    let inside = c.loop-node.invariant.within in
    record {
      shown = elim c.if-place-n.branch [
        | then-place-n+in_ok-push w ↦
            ap (λ t. take (c.args.n - (c.loop-node.place - c.len-place.result - length more)) more ++ joined (reverse t.items)) w.turned-is
            ∙ shown-before c.loop-node.turned.items w.push.new.self.items w.first.result c.args.n c.loop-node.place c.len-place.result rest
            more
            last all c.loop-node.invariant.shown is inside c.len-place.ensures.len w.in_ok-push.ensures.ok
            (w.first.ensures ∙ ap (λ bs. take (c.args.n - (c.loop-node.place - c.len-place.result)) bs) w.as_slice.ensures)
        | else-place-n w ↦
            ap (λ t. take (c.args.n - (c.loop-node.place - c.len-place.result - length more)) more ++ joined (reverse t.items)) w.turned-is
            ∙ shown-past c.loop-node.turned.items c.args.n c.loop-node.place c.len-place.result rest more last all
            c.loop-node.invariant.shown is inside c.len-place.ensures.len (omega (arith, w.if-place-n.false))
      ];
      within = omega (arith, inside, ap length is, length-append more last, c.len-place.ensures.len);
    }
