use Rattle.std.proofs.Common.{◌≡◌, ℕ}
use Rattle.std.specs.Prelude.{◌||◌}
use Rattle.resting_links.specs.RestingValue.{Wakes, link_has_come}
use Rattle.resting_links.proofs.RestingLemmas.{left}
use Rattle.resting_links.proofs.resting.RestingLinks.wake.Given as goal

abbrev pub invariant-loop-number : goal.invariant-loop-number
invariant-loop-number l = record {
  more : Wakes l.fn.self l.self;
  due : (n : ℕ) → l.self.watched.has n || link_has_come l.self l.time n ≡ l.fn.self.watched.has n || link_has_come l.fn.self l.time n;
}

abbrev pub decreases-loop-number : goal.decreases-loop-number
decreases-loop-number l = left l.self.moments
