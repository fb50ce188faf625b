use Rattle.std.proofs.Common.{◌≡◌, ◌+◌, ◌++◌, length, take, drop, ap, ◌∙◌, arith}
use Rattle.evbuf_chain.specs.Covered.{covered}
use Rattle.evbuf_chain.proofs.CoveredLemmas.{covered-then}
use Rattle.evbuf_chain.proofs.ChainLemmas.{covered-all}
use Rattle.evbuf_chain.proofs.chain.Chain.copy_out.Goals as goal

pub returns-clause-copied : goal.returns-clause-copied
returns-clause-copied c =
    let chunks = c.self.inside.chunks.bytes in
    let own = c.self.inside.own.items in
    let window = c.split_at_mut-window.result.0.now in
    let from = c.args.from in
    let place : c.len-2.result ≡ 0 + length chunks = omega (arith, c.len-2.ensures.len) in
    let size : length window ≡ c.min-count.result = c.split_at_mut-window.ensures.front_len in
    ap (λ bs. bs ++ c.split_at_mut-window.result.1.now)
    (c.copy_part.ensures
    ∙ ap (λ k. covered k c.as_slice.result.now from c.copy_out.new.window) place
    ∙ ap (λ bs. covered (0 + length chunks) bs from c.copy_out.new.window) c.as_slice.ensures
    ∙ ap (λ ws. covered (0 + length chunks) own from ws) c.copy_out.ensures
    ∙ covered-then 0 chunks own from window
    ∙ covered-all (chunks ++ own) from window
    (omega (
      arith,
      size,
      c.min-count.ensures,
      c.saturating_sub.ensures,
      c.len.ensures.len,
      ap (λ v. length v.bytes) c.self.view_is,
    ))
    ∙ ap (λ k. take k (drop from (chunks ++ own))) size
    ∙ ap (λ v. take c.min-count.result (drop from v.bytes)) c.self.view_is)
    ∙ ap (λ bs. take c.min-count.result (drop from c.args.self.now.bytes) ++ bs) c.split_at_mut-window.ensures.back
