use Rattle.std.proofs.Common.{◌≡◌, ◌≤◌, ℕ, length, max, vec_capacity, slice_index_or, None}
use Rattle.bev_world.proofs.roster.add_slots.Given as goal

abbrev pub invariant-loop : goal.invariant-loop
invariant-loop g l = record {
  room : l.count ≤ vec_capacity l.boxes;
  many : length l.boxes.items ≡ l.counter;
  most : l.counter ≤ max l.count (length l.fn.boxes.items);
  boxes : (n : ℕ) → slice_index_or l.boxes.items n None ≡ slice_index_or l.fn.boxes.items n None;
}
