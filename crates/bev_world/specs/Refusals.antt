-- Which refusal of a call on a world holds, the first first. Want of memory comes after all of them.
use Rattle.std.specs.Prelude.{ℕ, ◌+◌, ◌-◌, ◌^◌, ◌==◌, nat_lt, Bool, true, false, if◌then◌else◌, Option, Some, None, length}
use Rattle.std.specs.Option.{option_or}
use Rattle.bev_core.specs.declared.fault.BevFault.{BevFault}
use Rattle.bev_core.specs.declared.fault.BevFault.TheVariants as bev
use Rattle.bev_world.specs.declared.fault.WorldFault.{WorldFault}
use Rattle.bev_world.specs.declared.fault.WorldFault.TheVariants as fault
use Rattle.bev_world.specs.declared.slot.Kind.{Kind}
use Rattle.bev_world.specs.declared.slot.Kind.TheVariants as kind
use Rattle.bev_world.specs.WorldValue.{WorldValue, slot_at, bev_at, is_live}

-- the refusal of a bufferevent is the world's
abbrev pub of_bev : BevFault → WorldFault
of_bev bev.Memory = fault.Memory
of_bev bev.NotLive = fault.NotLive
of_bev bev.TooManyRefs = fault.TooManyRefs
of_bev bev.Spent = fault.Spent

-- it is unknown, or was freed
abbrev pub live_refusal : WorldValue → ℕ → Option WorldFault
live_refusal w n = if is_live w n then None else Some fault.NotLive

abbrev pub is_socket : Kind → Bool
is_socket kind.Socket = true
is_socket (kind.Half other) = false
is_socket (kind.Filter under) = false

abbrev pub is_filter : Kind → Bool
is_filter kind.Socket = false
is_filter (kind.Half other) = false
is_filter (kind.Filter under) = true

-- a live one is no socket
abbrev pub socket_refusal : WorldValue → ℕ → Option WorldFault
socket_refusal w n =
    option_or (live_refusal w n) (if is_socket (slot_at w n).kind then None else Some fault.NotSocket)

-- so many more bufferevents need numbers
abbrev pub ids_refusal : WorldValue → ℕ → Option WorldFault
ids_refusal w more = if nat_lt (length w.slots + more) (2 ^ 32) then None else Some fault.IdsSpent

-- a filter can't be made over it: it isn't live, there are no more numbers, or it has one
abbrev pub filter_refusal : WorldValue → ℕ → Option WorldFault
filter_refusal w n =
    option_or (live_refusal w n) (option_or (ids_refusal w 1) (if (slot_at w n).taken then Some fault.Taken else None))

-- one reference more doesn't fit a u32
abbrev pub incref_refusal : WorldValue → ℕ → Option WorldFault
incref_refusal w n = option_or (live_refusal w n) (if (bev_at w n).refs == 2 ^ 32 - 1 then Some fault.TooManyRefs else None)

-- it is unknown, or a freed one without a reference
abbrev pub decref_refusal : WorldValue → ℕ → Option WorldFault
decref_refusal w n = if (bev_at w n).refs == 0 then Some fault.NotLive else None

-- so many more bytes than a length make one that doesn't fit a usize
abbrev pub length_fault : ℕ → ℕ → Option WorldFault
length_fault len more = if nat_lt (len + more) (2 ^ 64) then None else Some fault.Spent

-- a live one is no socket, or its input gets too long
abbrev pub feed_refusal : WorldValue → ℕ → ℕ → Option WorldFault
feed_refusal w n more = option_or (socket_refusal w n) (length_fault (length (bev_at w n).input.bytes) more)
