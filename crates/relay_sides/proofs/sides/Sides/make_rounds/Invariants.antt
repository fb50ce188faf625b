use Rattle.std.proofs.Common.{◌≡◌, true, false}
use Rattle.relay_state.specs.Passage.{SomeRounds}
use Rattle.relay_sides.specs.Links.{passage_at, with_passage}
use Rattle.relay_sides.specs.Progress.{round_by, is_settled}
use Rattle.relay_sides.proofs.RoundLemmas.{weight, Went}
use Rattle.relay_sides.proofs.sides.Sides.make_rounds.Given as goal

abbrev pub invariant-loop-from : goal.invariant-loop-from
invariant-loop-from l = record {
  frame : l.self.links ≡ with_passage l.from (passage_at l.self.links l.from) l.fn.self.links;
  some : SomeRounds (round_by l.round) (passage_at l.fn.self.links l.from) (passage_at l.self.links l.from);
  still : l.changed ≡ false → passage_at l.self.links l.from ≡ passage_at l.fn.self.links l.from;
  unsettled : l.changed ≡ true → is_settled l.round (passage_at l.fn.self.links l.from) ≡ false;
  went : l.changed ≡ true → Went l.round.hold (passage_at l.fn.self.links l.from) (passage_at l.self.links l.from);
}

abbrev pub decreases-loop-from : goal.decreases-loop-from
decreases-loop-from l = weight l.round.hold (passage_at l.self.links l.from)
