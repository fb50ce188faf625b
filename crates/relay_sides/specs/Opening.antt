-- The two bufferevents of a side whose link opens, whose buffers may lie in several chunks, or not.
use Rattle.std.specs.Prelude.{ℕ, ◌+◌, Bool, true, List, [], ◌∷◌, slice_index_or, slice_set, Option, Some, None}
use Rattle.ev_types.specs.declared.filter.FilterKind.TheVariants as kind
use Rattle.token_bucket.specs.declared.limit.LimitCfg.{LimitCfg}
use Rattle.filter_model.specs.FilterStep.{begun}
use Rattle.bev_core.specs.BevValue.{BevValue, new_chunked}
use Rattle.bev_world.specs.WorldValue.{made_slot, no_slot}
use Rattle.bev_world.specs.declared.slot.Slot.{Slot}
use Rattle.bev_world.specs.declared.slot.Kind.TheVariants.{Socket, Filter}
use Rattle.relay_sides.specs.declared.opening.NewSide.{NewSide}

-- that of its end: both directions are enabled, and were active when the link opened
abbrev pub opening_bev : Bool → ℕ → NewSide → BevValue
opening_bev chunked time side = record (new_chunked chunked) {
  reading = true;
  read_low = side.marks.read_low;
  read_high = side.marks.read_high;
  write_low = side.marks.write_low;
  write_high = side.marks.write_high;
  read_ms = side.timeouts.read_ms;
  write_ms = side.timeouts.write_ms;
  last_read = time;
  last_write = time;
}

-- both, the first of which has this number; the second is a filter over it
abbrev pub side_slots : Bool → ℕ → NewSide → ℕ → List Slot
side_slots chunked time side n =
    record (made_slot chunked Socket kind.None kind.None) { bev = opening_bev chunked time side; taken = true }
    ∷ made_slot chunked (Filter n) side.read side.write ∷ []

-- both made new in the place of two of before, the first of which has this number
abbrev pub side_renewed : Bool → ℕ → NewSide → ℕ → List Slot → List Slot
side_renewed chunked time side n slots =
    let first = slice_index_or slots n no_slot in
    let second = slice_index_or slots (n + 1) no_slot in
    let none = begun kind.None in
    slice_set
    (slice_set slots n (record first { bev = opening_bev chunked time side; room = 0; read_filter = none; write_filter = none }))
    (n + 1)
    (record second { bev = new_chunked chunked; room = 0; read_filter = begun side.read; write_filter = begun side.write })

-- for how many limits there must be room
abbrev pub limits_in : Option LimitCfg → ℕ
limits_in None = 0
limits_in (Some cfg) = 1

abbrev pub limits_of : NewSide → NewSide → ℕ
limits_of near far = limits_in near.limit + limits_in far.limit
