-- Counters of 64 bits, which stop at the end of their type.
use Rattle.std.specs.Prelude.{ℕ, ◌+◌, ◌-◌, ◌^◌, min, Bool, nat_lt, if◌then◌else◌}

-- a counter after so many more
abbrev pub counted : ℕ → ℕ → ℕ
counted n more = min (n + more) (2 ^ 64 - 1)

-- a count of faults after a call that met one, or none
abbrev pub risen_if : Bool → ℕ → ℕ
risen_if is_fault n = if is_fault then (if nat_lt n (2 ^ 64 - 1) then n + 1 else n) else n
