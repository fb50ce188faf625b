use Rattle.std.proofs.Common.{◌+◌, ◌/◌, ◌%◌, ◌<◌, ◌++◌, ◌∙◌, refl, sym, ap, subst, take, drop, append_assoc}
use Rattle.std.specs.Simd.Lanes.{chunk}
use Rattle.stream_filters.specs.Crlf.{with_crs}
use Rattle.stream_filters.proofs.CrlfLemmas.{shuffled, bytes-long, high-small, sixteen}
use Rattle.stream_filters.proofs.crlf_lanes.write_sixteen.Goals as goal

pub write_eight-middle-requires-clause-cr : goal.write_eight-middle-requires-clause-cr
write_eight-middle-requires-clause-cr c =
    (refl, (shuffled (chunk (c.args.at + 1) 16 c.args.src.now) (bytes-long c.args.src.now c.args.at c.requires.there)).cr)

pub write_eight-requires-clause-cr : goal.write_eight-requires-clause-cr
write_eight-requires-clause-cr c =
    (refl, (shuffled (chunk (c.args.at + 1) 16 c.args.src.now) (bytes-long c.args.src.now c.args.at c.requires.there)).cr)

pub write_eight-requires-clause-bits : goal.write_eight-requires-clause-bits
write_eight-requires-clause-bits c =
    subst (λ bits. bits / 256 < 256) (sym c.bare_ends-bits.ensures) (high-small c.args.src.now c.args.at c.requires.there)

pub returns-clause-text : goal.returns-clause-text
returns-clause-text c =
    let src = c.args.src.now in
    let at = c.args.at in
    let bytes = chunk (at + 1) 16 src in
    let is = shuffled bytes (bytes-long src at c.requires.there) in
    let start = take c.args.end c.args.block.now in
    let bits = c.bare_ends-bits.ensures in
    c.write_eight.ensures.text
    ∙ (λ i. c.write_eight-middle.ensures.text i ++ with_crs (c.bare_ends-bits.result / 256) (is.high i))
    ∙ (λ i. (start ++ with_crs (bits i % 256) (is.low i)) ++ with_crs (bits i / 256) (drop 8 bytes))
    ∙ append_assoc start (with_crs (bits 1 % 256) (take 8 bytes)) (with_crs (bits 1 / 256) (drop 8 bytes))
    ∙ ap (λ xs. start ++ xs) (sixteen src at c.requires.there)
