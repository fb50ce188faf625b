-- What calls by number leave of a world.
use Rattle.std.specs.Prelude.{◌≡◌, ℕ, Bool, List}
use Rattle.token_bucket.specs.declared.limit.Dir.{Dir}
use Rattle.token_bucket.specs.declared.limit.Dir.TheVariants.{Read, Write}
use Rattle.ev_types.specs.declared.filter.FilterKind.{FilterKind}
use Rattle.filter_model.specs.Running.{Running}
use Rattle.filter_model.specs.FilterStep.{begun}
use Rattle.bev_core.specs.BevValue.{BevValue, new_chunked}
use Rattle.bev_core.specs.Steps.{held, with_held, touched, freed, more, given_up}
use Rattle.bev_filter.specs.Passing.{Crossing, Crossed, stepping}
use Rattle.bev_world.specs.declared.slot.Slot.{Slot}
use Rattle.bev_world.specs.FilterSlots.{slots_crossing, lower_after, over_after}
use Rattle.bev_world.specs.WorldValue.{WorldValue, slot_at, bev_at, with_slot}

-- the filter of a direction
abbrev pub filter_of : Slot → Dir → Running
filter_of s Read = s.read_filter
filter_of s Write = s.write_filter

-- what is spare in the buffer of a direction is other
abbrev pub with_spare_in : BevValue → Dir → ℕ → BevValue
with_spare_in bev dir spare = with_held bev dir (record (held bev dir) { spare = spare })

-- Bytes came to the end of a slot's input, behind which so much is spare then, and the moment is the last activity of reading. The input is
-- sure of no room any more.
abbrev pub slot_fed : List ℕ → ℕ → ℕ → Slot → Slot
slot_fed bytes moment spare s =
    record s { bev = touched (record s.bev { input = more s.bev.input bytes spare }) Read moment; room = 0 }

abbrev pub fed_with_spare : WorldValue → ℕ → List ℕ → ℕ → ℕ → WorldValue
fed_with_spare w n bytes moment spare = with_slot w n (slot_fed bytes moment spare (slot_at w n))

-- the room of its buffers is freed, where they have no byte
abbrev pub roomless : WorldValue → ℕ → WorldValue
roomless w n = with_slot w n (record (slot_at w n) { bev = given_up (bev_at w n); room = 0 })

-- it alone is freed, and what is due stays so
abbrev pub dropped : WorldValue → ℕ → WorldValue
dropped w n = with_slot w n (record (slot_at w n) { bev = freed (bev_at w n); room = 0 })

-- it is new, with filters of these kinds, and what carries its bytes stays
abbrev pub renewed : WorldValue → ℕ → FilterKind → FilterKind → WorldValue
renewed w n input output = with_slot w n (record (slot_at w n) {
  bev = new_chunked w.chunked;
  room = 0;
  read_filter = begun input;
  write_filter = begun output;
})

-- Whose buffer the bytes of a direction come to: what is read comes to the filter's own, what is written to that of the one under it.
abbrev pub target_of : Dir → ℕ → ℕ → ℕ
target_of Read n under = n
target_of Write n under = under

-- the filter and the one under it are as a step left them
abbrev pub crossed_at : WorldValue → Dir → ℕ → ℕ → Crossing → WorldValue
crossed_at w dir n under p =
    with_slot (with_slot w under (lower_after dir (slot_at w under) p)) n (over_after dir (slot_at w n) p)

-- the step between the slot under a filter and its own was made, and they are as it left them
pub record SlotsWent (dir : Dir) (limit : ℕ) (at_end : Bool) (lower upper new_lower new_upper : Slot) : Type 0 where
  pub crossed : Crossed dir (stepping dir (slots_crossing dir lower upper) limit at_end) (slots_crossing dir lower upper)
      (slots_crossing dir new_lower new_upper)
  pub lower_is : new_lower ≡ lower_after dir lower (slots_crossing dir new_lower new_upper)
  pub upper_is : new_upper ≡ over_after dir upper (slots_crossing dir new_lower new_upper)

-- the input of the one and the output of the other are exchanged
abbrev pub input_swapped : Slot → Slot → Slot
input_swapped from to = record from { bev = record from.bev { input = to.bev.output }; room = 0 }

abbrev pub output_swapped : Slot → Slot → Slot
output_swapped from to = record to { bev = record to.bev { output = from.bev.input } }

abbrev pub swapped_across : WorldValue → ℕ → ℕ → WorldValue
swapped_across w from to =
    with_slot (with_slot w to (output_swapped (slot_at w from) (slot_at w to))) from (input_swapped (slot_at w from) (slot_at w to))
