use Rattle.std.proofs.Common.{◌≡◌, ◌+◌, ◌-◌, ◌++◌, reverse, length, ap, sym, ◌∙◌, arith, length-append}
use Rattle.std.proofs.lemmas.Grind.{flat_map-append}
use Rattle.evbuf_chain.specs.ChunkValue.{chunk_bytes}
use Rattle.evbuf_chain.specs.Covered.{covered}
use Rattle.evbuf_chain.proofs.CoveredLemmas.{covered-past, covered-then}
use Rattle.evbuf_chain.proofs.queue.Queue.copy_out.Goals as goal

pub returns-then-not-copy_forward : goal.returns-then-not-copy_forward
returns-then-not-copy_forward c =
    let front = chunk_bytes c.self.inside.front in
    let back = chunk_bytes (reverse c.self.inside.back) in
    let all : front ++ back ≡ chunk_bytes c.args.self.now =
    sym (flat_map-append (λ p. p.bytes) c.self.inside.front (reverse c.self.inside.back)) ∙ ap chunk_bytes c.self.view_is in
    let start : c.args.end - length back ≡ 0 + length front =
    omega (arith, c.requires.end, ap length all, length-append front back) in
    c.copy_backward.ensures.copied
    ∙ ap (λ k. covered k back c.args.from c.copy_forward.new.window) start
    ∙ ap (λ ws. covered (0 + length front) back c.args.from ws) c.copy_forward.ensures.copied
    ∙ covered-then 0 front back c.args.from c.args.window.now
    ∙ ap (λ bs. covered 0 bs c.args.from c.args.window.now) all

pub returns-else-not-copy_forward : goal.returns-else-not-copy_forward
returns-else-not-copy_forward c =
    let front = chunk_bytes c.self.inside.front in
    let back = chunk_bytes (reverse c.self.inside.back) in
    let all : front ++ back ≡ chunk_bytes c.args.self.now =
    sym (flat_map-append (λ p. p.bytes) c.self.inside.front (reverse c.self.inside.back)) ∙ ap chunk_bytes c.self.view_is in
    sym (covered-past (0 + length front) back c.args.from c.copy_forward.new.window
    (omega (arith, c.copy_forward.ensures.filled c.if-not-copy_forward.false, c.copy_forward.auto.window)))
    ∙ ap (λ ws. covered (0 + length front) back c.args.from ws) c.copy_forward.ensures.copied
    ∙ covered-then 0 front back c.args.from c.args.window.now
    ∙ ap (λ bs. covered 0 bs c.args.from c.args.window.now) all
