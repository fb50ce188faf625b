-- The timers stay the same ones, in their slots, and are a heap but for the one that sinks.
use Rattle.std.proofs.Common.{◌≡◌, ◌-◌, ◌<◌, length, IsPermutation}
use Rattle.slab.specs.Slab.{slab_len}
use Rattle.min_timer.specs.Order.{MaySink, SlotsHoldPlaces}
use Rattle.min_timer.proofs.sift.sink.Given as goal

abbrev pub invariant-loop-below : goal.invariant-loop-below
invariant-loop-below l = record {
  within : l.at < length l.timers;
  long : length l.timers ≡ length l.initial.timers;
  same : IsPermutation l.initial.timers l.timers;
  heap : MaySink l.timers l.at;
  seated : SlotsHoldPlaces l.timers l.places;
  count : slab_len l.places ≡ slab_len l.initial.places;
}

abbrev pub decreases-loop-below : goal.decreases-loop-below
decreases-loop-below l = length l.timers - l.at
