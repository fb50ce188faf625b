use Rattle.std.proofs.Common.{◌^◌, ◌%◌, ◌∙◌, sym, ap, arith}
use Rattle.std.specs.Simd.Lanes.{mask_l, zip2}
use Rattle.std.proofs.lemmas.Simd.{mask_l-mod, length-zip2}
use Rattle.stream_filters.specs.Crlf.{is_bare_end}
use Rattle.stream_filters.proofs.CrlfLemmas.{flags}
use Rattle.stream_filters.proofs.crlf_lanes.bare_ends.Goals as goal

pub returns : goal.returns
returns c =
    let before = c.args.before in
    let bytes = c.args.bytes in
    let long = length-zip2 is_bare_end before bytes (c.requires.0 ∙ sym c.requires.1) in
    ap (λ ms. mask_l ms % 2 ^ 64) (flags 16 before bytes c.requires.0 c.requires.1)
    ∙ mask_l-mod (zip2 is_bare_end before bytes) 64 (omega (arith, long, c.requires.0))
