use Rattle.stream_filters.proofs.HexLaneLemmas.{spelled-digits}
use Rattle.stream_filters.proofs.hex_lanes.spelled_by.Goals as goal

pub returns : goal.returns
returns c digits all told = spelled-digits c.args.values digits c.fits-values.0 all told
