use Rattle.std.proofs.Common.{◌-◌, ◌≤◌, length, vec_capacity}
use Rattle.stream_filters.specs.Knowledge.{IsDigitLast}
use Rattle.stream_filters.proofs.AlongLemmas.{Along}
use Rattle.stream_filters.proofs.step.run.Given as goal

abbrev pub invariant-loop-at : goal.invariant-loop-at
invariant-loop-at l = record {
  along : Along l.kind l.limit l.initial.known l.known l.src l.initial.dst.items l.dst.items l.at (vec_capacity l.dst);
  digit : IsDigitLast l.kind l.known.last;
  capacity : vec_capacity l.initial.dst ≤ vec_capacity l.dst;
}

abbrev pub decreases-loop-at : goal.decreases-loop-at
decreases-loop-at l = length l.src - l.at
