-- The two bufferevents of a side by its number: that of its end, and the filter over it.
use Rattle.std.specs.Prelude.{ℕ, ◌+◌, ◌-◌, ◌*◌, ◌/◌, ◌%◌, List, slice_index_or}
use Rattle.bev_world.specs.WorldValue.{no_slot}
use Rattle.bev_world.specs.declared.slot.Slot.{Slot}

pub record Bevs : Type 0 where
  pub lower : Slot
  pub upper : Slot

abbrev pub lower_of : ℕ → ℕ
lower_of n = 2 * n

abbrev pub upper_of : ℕ → ℕ
upper_of n = 2 * n + 1

abbrev pub bevs_at : List Slot → ℕ → Bevs
bevs_at slots n = record { lower = slice_index_or slots (lower_of n) no_slot; upper = slice_index_or slots (upper_of n) no_slot }

-- the number of the other side of the same link
abbrev pub twin : ℕ → ℕ
twin n = 2 * (n / 2) + (1 - n % 2)
