use Rattle.number_set.proofs.BitLemmas.{lowest_of}
use Rattle.number_set.proofs.bits.without_lowest.Goals as goal

pub returns-clause-least : goal.returns-clause-least
returns-clause-least c = lowest_of c.args.word c.requires c.ranges.word.fits
