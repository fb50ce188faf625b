use Rattle.std.proofs.Common.{◌+◌, ◌/◌, ◌%◌, ◌<◌, ◌++◌, ◌∙◌, sym, ap, subst, take, drop, append_assoc}
use Rattle.std.specs.Simd.Lanes.{chunk}
use Rattle.filter_model.specs.Filter.{to_lf}
use Rattle.stream_filters.specs.Lf.{without_marked}
use Rattle.stream_filters.proofs.LfLemmas.{high-half, sixteen-long, high-bits, sixteen-lf}
use Rattle.stream_filters.proofs.lf_lanes.press_sixteen.Goals as goal

pub press_eight-requires-clause-bits : goal.press_eight-requires-clause-bits
press_eight-requires-clause-bits c =
    subst (λ bits. bits / 256 < 256) (sym c.dropped_crs-bits.ensures) (high-bits c.args.src.now c.args.at c.requires.there)

pub returns-clause-text : goal.returns-clause-text
returns-clause-text c =
    let src = c.args.src.now in
    let at = c.args.at in
    let bytes = chunk at 16 src in
    let is = high-half bytes (sixteen-long src at c.requires.there) in
    let start = take c.args.end c.args.block.now in
    let bits = c.dropped_crs-bits.ensures in
    let rest = to_lf (drop (at + 16) src) in
    let low = without_marked (bits 1 % 256) (take 8 bytes) in
    let high = without_marked (bits 1 / 256) (drop 8 bytes) in
    ap (λ xs. xs ++ rest) (c.press_eight.ensures.text
    ∙ (λ i. c.press_eight-middle.ensures.text i ++ without_marked (c.dropped_crs-bits.result / 256) (is i))
    ∙ (λ i. (start ++ without_marked (bits i % 256) (take 8 bytes)) ++ without_marked (bits i / 256) (drop 8 bytes))
    ∙ append_assoc start low high)
    ∙ append_assoc start (low ++ high) rest
    ∙ ap (λ xs. start ++ xs) (sixteen-lf src at c.requires.there)
