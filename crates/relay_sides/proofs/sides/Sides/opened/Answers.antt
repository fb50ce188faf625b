use Rattle.relay_sides.proofs.SidesLemmas.{pairs_seen}
use Rattle.relay_sides.proofs.sides.Sides.opened.Goals as goal

pub returns-clause-pairs : goal.returns-clause-pairs
returns-clause-pairs c = pairs_seen c.args.self.now c.self.inside c.self.view_is
