use Rattle.stream_filters.proofs.HexLaneLemmas.{values_small, values_tell}
use Rattle.stream_filters.proofs.hex_lanes.values_of.Goals as goal

pub returns-clause-small : goal.returns-clause-small
returns-clause-small c = values_small c.args.digits c.fits-digits.0 c.fits-digits.1

pub returns-clause-values : goal.returns-clause-values
returns-clause-values c all = values_tell c.args.digits c.fits-digits.0 c.fits-digits.1 all
