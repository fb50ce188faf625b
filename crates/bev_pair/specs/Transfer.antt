-- How many bytes go from one half of a pair to the other.
use Rattle.std.specs.Prelude.{ℕ, ◌+◌, ◌-◌, ◌^◌, ◌==◌, ◌&&◌, min, nat_lt, if◌then◌else◌, Option, Some, None, length}
use Rattle.ev_types.specs.declared.filter.Mode.{Mode}
use Rattle.ev_types.specs.declared.filter.Mode.TheVariants.{Normal, Flush, Finished}
use Rattle.ev_types.specs.declared.why.Flags.{Flags}
use Rattle.bev_core.specs.declared.state.BevState.{BevState}
use Rattle.bev_core.specs.BevValue.{BevValue, state_of}
use Rattle.bev_pair.specs.declared.fault.PairFault.{PairFault}
use Rattle.bev_pair.specs.declared.fault.PairFault.TheVariants.{NoPartner, Spent}

-- so many bytes, and no more than an input of a length takes up to its high mark; a mark of 0 is none
abbrev pub up_to : ℕ → ℕ → ℕ → ℕ
up_to high input n = if high == 0 then n else min n (high - input)

-- By the plain values of both: a flush moves the whole output. Else nothing goes unless the one writes and the other reads, and
-- no more than the other takes.
abbrev pub count_of : BevState → BevState → Mode → ℕ
count_of writer reader Normal =
    if writer.writing && reader.reading then up_to reader.read_high reader.input writer.output else 0
count_of writer reader Flush = writer.output
count_of writer reader Finished = writer.output

-- how many bytes go
abbrev pub moved_by : BevValue → BevValue → Mode → ℕ
moved_by from to mode = count_of (state_of from) (state_of to) mode

-- either was freed, or the other's input would have a length that doesn't fit a usize
abbrev pub transfer_refusal : BevValue → BevValue → Mode → Option PairFault
transfer_refusal from to mode =
    if from.live && to.live
    then (if nat_lt (length to.input.bytes + moved_by from to mode) (2 ^ 64) then None else Some Spent)
    else Some NoPartner

-- what a flush raises at the other half: reading 0x01 and end of file 0x10, where it is finished
abbrev pub flush_flags : Mode → Option Flags
flush_flags Normal = None
flush_flags Flush = None
flush_flags Finished = Some (record { 0 = 17 })
