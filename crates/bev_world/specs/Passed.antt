-- Bytes that go through a filter, and bytes that go from one bufferevent to another.
use Rattle.std.specs.Prelude.{ℕ, [], length, Option}
use Rattle.std.specs.Option.{option_or}
use Rattle.bev_core.specs.BevValue.{Held}
use Rattle.bev_world.specs.declared.fault.WorldFault.{WorldFault}
use Rattle.bev_world.specs.Halves.{appended}
use Rattle.bev_world.specs.Refusals.{live_refusal, length_fault}
use Rattle.bev_world.specs.WorldValue.{WorldValue, slot_at, bev_at, with_slot}

-- the input is another, and is sure of so much room
abbrev pub with_whole_input : WorldValue → ℕ → Held → ℕ → WorldValue
with_whole_input w n input room = with_slot w n (record (slot_at w n) { bev = record (bev_at w n) { input = input }; room = room })

-- the input has no byte and is sure of no room, but so much is spare in it
abbrev pub emptied : WorldValue → ℕ → ℕ → WorldValue
emptied w n spare = with_whole_input w n (record { bytes = []; spare = spare }) 0

-- The whole input of one is at the end of the output of another, or of the same one, and that input is sure of no room. The last two
-- arguments are what is spare in that output and in that input afterwards.
abbrev pub moved_input : WorldValue → ℕ → ℕ → ℕ → ℕ → WorldValue
moved_input w from to behind before = appended (emptied w from before) to (bev_at w from).input.bytes behind

-- one of them isn't live, or the output gets too long
abbrev pub move_refusal : WorldValue → ℕ → ℕ → Option WorldFault
move_refusal w from to =
    option_or (live_refusal w from)
    (option_or (live_refusal w to) (length_fault (length (bev_at w to).output.bytes) (length (bev_at w from).input.bytes)))
