-- What the results of reads and writes make of a bufferevent, and the flags of events.
use Rattle.std.specs.Prelude.{ℕ, ◌+◌, List}
use Rattle.token_bucket.specs.declared.limit.Dir.{Dir}
use Rattle.token_bucket.specs.declared.limit.Dir.TheVariants.{Read, Write}
use Rattle.ev_types.specs.declared.why.Flags.{Flags}
use Rattle.bev_core.specs.BevValue.{BevValue}
use Rattle.bev_core.specs.Steps.{touched, less, fed_reserved}

-- the flag of a direction: reading 1, writing 2
abbrev pub direction_flag : Dir → ℕ
direction_flag Read = 1
direction_flag Write = 2

-- the flags of what happened in a direction
abbrev pub event_flags : Dir → ℕ → Flags
event_flags dir what = record { 0 = direction_flag dir + what }

-- bytes were read into the input at a moment
abbrev pub read : BevValue → List ℕ → ℕ → BevValue
read bev bytes moment = touched (fed_reserved bev Read bytes) Read moment

-- the first n bytes of the output were written at a moment; the last argument is what is spare afterwards
abbrev pub written : BevValue → ℕ → ℕ → ℕ → BevValue
written bev n moment left = touched (record bev { output = less bev.output n left }) Write moment
