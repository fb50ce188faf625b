use Rattle.std.proofs.Common.{◌^◌, ◌%◌, ◌∙◌, sym, ap, arith}
use Rattle.std.specs.Simd.Lanes.{mask_l, zip2}
use Rattle.std.proofs.lemmas.Simd.{mask_l-mod, length-zip2}
use Rattle.stream_filters.specs.Lf.{is_dropped_cr}
use Rattle.stream_filters.proofs.LfLemmas.{lf-flags}
use Rattle.stream_filters.proofs.lf_lanes.dropped_crs.Goals as goal

pub returns : goal.returns
returns c =
    let bytes = c.args.bytes in
    let behind = c.args.behind in
    let long = length-zip2 is_dropped_cr bytes behind (c.requires.0 ∙ sym c.requires.1) in
    ap (λ ms. mask_l ms % 2 ^ 64) (lf-flags 16 bytes behind c.requires.0 c.requires.1)
    ∙ mask_l-mod (zip2 is_dropped_cr bytes behind) 64 (omega (arith, long, c.requires.0))
