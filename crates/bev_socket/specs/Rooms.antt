-- How many bytes may be read and written at once.
use Rattle.std.specs.Prelude.{ℕ, ◌-◌, ◌==◌, ◌&&◌, min, not, if◌then◌else◌, Option, Some, None, length}
use Rattle.bev_core.specs.BevValue.{BevValue}

-- the length of an input from which on nothing is read: the high mark, or 16,384 where there is none
abbrev pub read_mark : ℕ → ℕ
read_mark high = if high == 0 then 16384 else high

-- a number, and no more than another where there is one
abbrev pub within : ℕ → Option ℕ → ℕ
within n (Some most) = min n most
within n None = n

-- Nothing may be read where it is freed, disabled for reading, ended or failed. Else it is what is missing to the mark, and no
-- more than 16,384, its allowance and its share.
abbrev pub read_room : BevValue → Option ℕ → Option ℕ → ℕ
read_room bev allowance share =
    if bev.live && bev.reading && not bev.ended && not bev.failed
    then within (within (min (read_mark bev.read_high - length bev.input.bytes) 16384) allowance) share
    else 0

-- Nothing may be written where it is freed, disabled for writing or failed. Else it is the output, and no more than 16,384, its
-- allowance and its share.
abbrev pub write_room : BevValue → Option ℕ → Option ℕ → ℕ
write_room bev allowance share =
    if bev.live && bev.writing && not bev.failed
    then within (within (min (length bev.output.bytes) 16384) allowance) share
    else 0
