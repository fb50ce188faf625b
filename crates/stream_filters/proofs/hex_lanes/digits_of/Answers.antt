use Rattle.std.proofs.Common.{refl, arith, w8}
use Rattle.std.proofs.lemmas.Simd.{SwzOk-from_below}
use Rattle.stream_filters.proofs.HexLaneLemmas.{digits_are}
use Rattle.stream_filters.proofs.hex_lanes.digits_of.Goals as goal

pub swizzle : goal.swizzle
swizzle c = SwzOk-from_below w8 16 1 16 0 c.args.values refl (let n = c.fits-values.0 in omega (arith, n)) c.requires

pub returns : goal.returns
returns c = digits_are 0 c.args.values (let n = c.fits-values.0 in omega (arith, n)) c.requires
