use Rattle.std.proofs.Common.{◌*◌}
use Rattle.relay_sides.proofs.ReaderLemmas.{NoneFar}
use Rattle.relay_pool.proofs.pool.LinkPool.any_count_is_spent.Given as goal

abbrev pub invariant-loop-link : goal.invariant-loop-link
invariant-loop-link l = NoneFar l.self.links (2 * l.link)
