-- The times of a trace's turns.
use Rattle.std.specs.Prelude.{ℕ, ◌^◌, min, max, [], ◌∷◌}
use Rattle.ev_types.specs.declared.entry.Entry.TheVariants.{Turn}
use Rattle.ev_types.specs.Trace.{Trace}

-- the latest time of a turn
abbrev pub latest : ℕ
latest = 2 ^ 62

-- the greatest time of a turn so far, or 0
abbrev pub greatest_time : Trace → ℕ
greatest_time [] = 0
greatest_time ((Turn ms, bytes) ∷ t) = max ms (greatest_time t)
greatest_time (x ∷ t) = greatest_time t

-- the time of a turn that begins behind a trace: the reading, cut at the latest time, unless a turn so far is later
abbrev pub turn_time : Trace → ℕ → ℕ
turn_time t reading = max (greatest_time t) (min reading latest)
