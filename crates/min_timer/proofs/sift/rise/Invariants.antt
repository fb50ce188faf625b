-- The timers stay the same ones, in their slots, and are a heap but for the one that rises.
use Rattle.std.proofs.Common.{◌≡◌, ◌<◌, length, IsPermutation}
use Rattle.slab.specs.Slab.{slab_len}
use Rattle.min_timer.specs.Order.{MayRise, SlotsHoldPlaces}
use Rattle.min_timer.proofs.sift.rise.Given as goal

abbrev pub invariant-loop-at : goal.invariant-loop-at
invariant-loop-at l = record {
  within : l.at < length l.timers;
  long : length l.timers ≡ length l.initial.timers;
  same : IsPermutation l.initial.timers l.timers;
  heap : MayRise l.timers l.at;
  seated : SlotsHoldPlaces l.timers l.places;
  count : slab_len l.places ≡ slab_len l.initial.places;
}

abbrev pub decreases-loop-at : goal.decreases-loop-at
decreases-loop-at l = l.at
