-- Which refusal of a call on a bufferevent holds, the first first. Want of memory comes after all of them.
use Rattle.std.specs.Prelude.{ℕ, ◌+◌, ◌-◌, ◌^◌, ◌==◌, nat_lt, if◌then◌else◌, Option, Some, None, length}
use Rattle.std.specs.Option.{option_or}
use Rattle.token_bucket.specs.declared.limit.Dir.{Dir}
use Rattle.token_bucket.specs.declared.limit.Dir.TheVariants.{Write}
use Rattle.bev_core.specs.BevValue.{Held, BevValue}
use Rattle.bev_core.specs.Steps.{held}
use Rattle.bev_core.specs.declared.fault.BevFault.{BevFault}
use Rattle.bev_core.specs.declared.fault.BevFault.TheVariants.{NotLive, TooManyRefs, Spent}

-- it was freed
abbrev pub live_refusal : BevValue → Option BevFault
live_refusal bev = if bev.live then None else Some NotLive

-- so many bytes more would make a length that doesn't fit a usize
abbrev pub length_refusal : Held → ℕ → Option BevFault
length_refusal held n = if nat_lt (length held.bytes + n) (2 ^ 64) then None else Some Spent

-- bytes come into the buffer of a direction
abbrev pub feed_refusal : BevValue → Dir → ℕ → Option BevFault
feed_refusal bev dir n = option_or (live_refusal bev) (length_refusal (held bev dir) n)

-- bytes come into the output
abbrev pub write_refusal : BevValue → ℕ → Option BevFault
write_refusal bev n = feed_refusal bev Write n

-- one reference more doesn't fit a u32
abbrev pub incref_refusal : BevValue → Option BevFault
incref_refusal bev = option_or (live_refusal bev) (if bev.refs == 2 ^ 32 - 1 then Some TooManyRefs else None)

-- a freed one has no reference
abbrev pub decref_refusal : BevValue → Option BevFault
decref_refusal bev = if bev.refs == 0 then Some NotLive else None
