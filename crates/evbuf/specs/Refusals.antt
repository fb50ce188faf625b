-- Which refusal of a call on evbuffers holds, the first first.
use Rattle.std.specs.Prelude.{ℕ, ◌+◌, ◌^◌, nat_lt, if◌then◌else◌, Option, Some, None, length}
use Rattle.std.specs.Option.{option_or}
use Rattle.evbuf.specs.Evbuffered.{Evbuffered}
use Rattle.evbuf.specs.Callbacks.{has_callback}
use Rattle.evbuf.specs.declared.fault.BufFault.{BufFault}
use Rattle.evbuf.specs.declared.fault.BufFault.TheVariants.{FrozenFront, FrozenEnd, SameBuffer, NoSuchCallback, Spent}

-- the end of the buffer is frozen
abbrev pub end_refusal : Evbuffered → Option BufFault
end_refusal buf = if buf.end_frozen then Some FrozenEnd else None

-- the front of the buffer is frozen
abbrev pub front_refusal : Evbuffered → Option BufFault
front_refusal buf = if buf.front_frozen then Some FrozenFront else None

-- the buffer with so many bytes more would have a length that doesn't fit a usize
abbrev pub length_refusal : Evbuffered → ℕ → Option BufFault
length_refusal buf n = if nat_lt (length buf.bytes + n) (2 ^ 64) then None else Some Spent

-- bytes come in at the end
abbrev pub add_refusal : Evbuffered → ℕ → Option BufFault
add_refusal buf n = option_or (end_refusal buf) (length_refusal buf n)

-- bytes come in at the front
abbrev pub prepend_refusal : Evbuffered → ℕ → Option BufFault
prepend_refusal buf n = option_or (front_refusal buf) (length_refusal buf n)

-- bytes go from one buffer to another: the target's end comes before the source's front
abbrev pub move_refusal : Evbuffered → Evbuffered → ℕ → Option BufFault
move_refusal to from n = option_or (end_refusal to) (option_or (front_refusal from) (length_refusal to n))

-- bytes go from a buffer to itself
abbrev pub same_refusal : Evbuffered → Option BufFault
same_refusal buf = option_or (end_refusal buf) (option_or (front_refusal buf) (Some SameBuffer))

-- no callback has the number
abbrev pub callback_refusal : Evbuffered → ℕ → Option BufFault
callback_refusal buf cb = if has_callback cb buf.callbacks then None else Some NoSuchCallback

-- a number that a callback would get doesn't fit a u32
abbrev pub number_refusal : Evbuffered → Option BufFault
number_refusal buf = if nat_lt buf.next (2 ^ 32) then None else Some Spent
