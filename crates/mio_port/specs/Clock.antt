-- The port's clock after a reading of the system's.
use Rattle.std.specs.Prelude.{ℕ, ◌-◌, ◌/◌, ◌^◌, min, max, Option, Some, None}
use Rattle.std.specs.Time.{instant_nanos}
use Rattle.std.specs.declared.time.Instant.{Instant}
use Rattle.mio_port.specs.declared.clock.SteadyClock.{SteadyClock}

-- the whole milliseconds from one moment to another
abbrev pub millis_between : Instant → Instant → ℕ
millis_between origin now = min ((instant_nanos now - instant_nanos origin) / 1000000) (2 ^ 64 - 1)

-- the moment from which it counts: the first that could be read
abbrev pub origin_or : Option Instant → Instant → Instant
origin_or (Some origin) now = origin
origin_or None now = now

-- It shows the greater of what it showed and the time since its origin; where the system's clock can't be read it stays.
abbrev pub after_reading : SteadyClock → Option Instant → SteadyClock
after_reading c None = c
after_reading c (Some now) =
    record { origin = Some (origin_or c.origin now); last = max c.last (millis_between (origin_or c.origin now) now) }
