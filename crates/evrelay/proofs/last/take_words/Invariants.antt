use Rattle.std.proofs.Common.{◌≤◌}
use Rattle.std.specs.Prelude.{vec_capacity}
use Rattle.evrelay.proofs.RingWantsLemmas.{TakenSoFar}
use Rattle.evrelay.proofs.last.take_words.Given as goal

-- The words of the wants from this place on are taken.
abbrev pub invariant-loop-count : goal.invariant-loop-count
invariant-loop-count l = record {
  taken : TakenSoFar l.wants l.before l.count l.words.items;
  room : 64 ≤ vec_capacity l.words;
}

abbrev pub decreases-loop-count : goal.decreases-loop-count
decreases-loop-count l = l.before
