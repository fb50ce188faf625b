use Rattle.std.proofs.Common.{subst}
use Rattle.relay_sides.specs.Pairs.{HasPairs}
use Rattle.relay_pool.specs.PoolValue.{PoolValue}
use Rattle.relay_pool.proofs.BayLemmas.{pairs_of}
use Rattle.relay_pool.proofs.pool.LinkPool.opened.Goals as goal

pub returns-clause-pairs : goal.returns-clause-pairs
returns-clause-pairs c =
    let r = c.self.inside in subst (λ (v : PoolValue). HasPairs v.links) c.self.view_is (pairs_of r.links.items r.sides.links)
