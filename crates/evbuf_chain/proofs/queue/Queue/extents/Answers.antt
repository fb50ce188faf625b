use Rattle.std.proofs.Common.{◌≡◌, ◌-◌, ◌++◌, reverse, take, length, ap, sym, ◌∙◌, arith, length-append, append_assoc}
use Rattle.std.proofs.lemmas.Grind.{flat_map-append}
use Rattle.evbuf_chain.specs.ChunkValue.{chunk_bytes}
use Rattle.evbuf_chain.specs.Buffered.{joined}
use Rattle.evbuf_chain.proofs.EndLemmas.{take-append}
use Rattle.evbuf_chain.proofs.queue.Queue.extents.Goals as goal

pub returns : goal.returns
returns c =
    let front = chunk_bytes c.self.inside.front in
    let back = chunk_bytes (reverse c.self.inside.back) in
    let n = c.args.n in
    let old = joined c.args.slices.now.items in
    let all : front ++ back ≡ chunk_bytes c.args.self.now =
    sym (flat_map-append (λ p. p.bytes) c.self.inside.front (reverse c.self.inside.back)) ∙ ap chunk_bytes c.self.view_is in
    let start : n - (c.args.end - length back) ≡ n - length front =
    omega (arith, c.requires, ap length all, length-append front back) in
    c.in_ok-turn.ensures
    ∙ ap (λ bs. bs ++ joined (reverse c.show_backward.new.turned.items)) c.in_ok-show_forward.ensures.shown
    ∙ append_assoc old (take n front) (joined (reverse c.show_backward.new.turned.items))
    ∙ ap (λ bs. old ++ (take n front ++ bs)) (c.in_ok-show_backward.ensures ∙ ap (λ k. take k back) start)
    ∙ ap (λ bs. old ++ bs) (sym (take-append n front back) ∙ ap (λ bs. take n bs) all)
