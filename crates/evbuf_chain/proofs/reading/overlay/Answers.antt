use Rattle.std.proofs.Common.{◌++◌, take, ap, sym, ◌∙◌}
use Rattle.evbuf_chain.proofs.CoveredLemmas.{overlaid-parts}
use Rattle.evbuf_chain.proofs.reading.overlay.Goals as goal

pub returns : goal.returns
returns c =
    ap (λ bs. bs ++ c.split_at_mut-over.result.1.now) (c.copy_from_slice.ensures.after ∙ c.split_at.ensures.front)
    ∙ ap (λ bs. take c.min-count.result c.args.bytes.now ++ bs) c.split_at_mut-over.ensures.back
    ∙ sym (overlaid-parts c.min-count.result c.args.bytes.now c.args.under.now c.min-count.ensures)
