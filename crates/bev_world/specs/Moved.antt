-- What bytes that come and go leave of a world. The last arguments are what is spare in buffers afterwards.
use Rattle.std.specs.Prelude.{ℕ, ◌-◌, ◌&&◌, nat_lt, List, length}
use Rattle.token_bucket.specs.declared.limit.Dir.TheVariants.{Read, Write}
use Rattle.ev_types.specs.declared.why.Why.TheVariants as why
use Rattle.bev_core.specs.BevValue.{reaches_low}
use Rattle.bev_core.specs.Steps.{more, touched}
use Rattle.bev_socket.specs.Results.{written}
use Rattle.bev_world.specs.declared.slot.Slot.{Slot}
use Rattle.bev_world.specs.WorldValue.{WorldValue, slot_at, bev_at, with_slot, with_bev, raised_if}

-- bytes were read into the input at a moment, in the room that it was sure to have, as far as that goes
abbrev pub fed_slot : Slot → List ℕ → ℕ → ℕ → Slot
fed_slot s bytes moment spare =
    record s { bev = touched (record s.bev { input = more s.bev.input bytes spare }) Read moment; room = s.room - length bytes }

-- a socket brought bytes: the reason of reading is due where there were some, and the input reaches its low mark
abbrev pub fed : WorldValue → ℕ → List ℕ → ℕ → ℕ → WorldValue
fed w n bytes moment spare =
    let s = fed_slot (slot_at w n) bytes moment spare in
    raised_if (nat_lt 0 (length bytes) && reaches_low s.bev Read) (with_slot w n s) n why.Read

-- a socket took the first n bytes of the output: the reason of writing is due where there were some, and the output reaches its low
-- mark
abbrev pub took_of : WorldValue → ℕ → ℕ → ℕ → ℕ → WorldValue
took_of w n count moment spare =
    let b = written (bev_at w n) count moment spare in
    raised_if (nat_lt 0 count && reaches_low b Write) (with_bev w n b) n why.Write
