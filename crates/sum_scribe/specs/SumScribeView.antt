-- How a scribe of sums keeps what it shows.
use Rattle.std.specs.Prelude.{◌≡◌, ◌-◌, ◌^◌, ◌<◌, min}
use Rattle.ev_types.specs.Taped.{Taped}
use Rattle.sum_scribe.specs.Sums.{turns_in, read_in, written_in, sum_of}
use Rattle.sum_scribe.specs.declared.scribe.SumScribe.TheInside.{Inside}

-- it shows the trace that it was told, and always has room
abbrev pub summed : Inside → Taped
summed s = record { trace = s.told.trace; spare_entries = 2 ^ 64; spare_bytes = 2 ^ 64 }

-- The four numbers are those of the trace; a count stays at 2^64 - 1 once it is there.
pub record IsSummed (s : Inside) : Type 0 where
  pub turns : s.turns ≡ min (turns_in s.told.trace) (2 ^ 64 - 1)
  pub read : s.read ≡ min (read_in s.told.trace) (2 ^ 64 - 1)
  pub written : s.written ≡ min (written_in s.told.trace) (2 ^ 64 - 1)
  pub sum : s.sum ≡ sum_of s.told.trace
  pub small : s.sum < 2 ^ 32
