use Rattle.relay_pool.proofs.LeftLemmas.{over_changed}
use Rattle.relay_pool.proofs.stay.Over.change.Goals as goal

pub returns-clause-over : goal.returns-clause-over
returns-clause-over c =
    over_changed c.args.self.now c.args.step c.made-self.result c.made-self-2.result c.then-self.result c.made-self.ensures
    c.made-self-2.ensures c.then-self.ensures
