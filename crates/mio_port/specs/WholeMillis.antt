-- Times in milliseconds.
use Rattle.std.specs.Prelude.{ℕ, ◌/◌, ◌-◌, ◌^◌, min}
use Rattle.std.specs.Duration.{as_nanos}
use Rattle.std.specs.declared.time.Duration.{Duration}

-- the whole milliseconds of a time, up to the end of 64 bits
abbrev pub millis_of : Duration → ℕ
millis_of time = min (as_nanos time / 1000000) (2 ^ 64 - 1)
