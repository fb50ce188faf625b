use Rattle.stream_filters.proofs.HexLaneLemmas.{high_small, low_small, woven}
use Rattle.stream_filters.proofs.hex_lanes.two_digits.Goals as goal

pub digits_of-high-requires : goal.digits_of-high-requires
digits_of-high-requires c = high_small c.args.bytes c.fits-bytes.1

pub digits_of-low-requires : goal.digits_of-low-requires
digits_of-low-requires c = low_small c.args.bytes

pub returns : goal.returns
returns c = woven c.args.bytes _ _ c.fits-bytes.0 c.digits_of-high.ensures c.digits_of-low.ensures
