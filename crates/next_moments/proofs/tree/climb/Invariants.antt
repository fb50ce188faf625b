use Rattle.std.proofs.Common.{◌≡◌, ◌<◌, length}
use Rattle.next_moments.proofs.TreeLemmas.{AreRightBut}
use Rattle.next_moments.proofs.tree.climb.Given as goal

abbrev pub invariant-loop-first : goal.invariant-loop-first
invariant-loop-first l = record {
  in_range : l.place < length l.moments;
  lengths : length l.firsts ≡ length l.moments;
  others : AreRightBut l.place l.moments l.firsts;
}

abbrev pub decreases-loop-first : goal.decreases-loop-first
decreases-loop-first l = l.place
