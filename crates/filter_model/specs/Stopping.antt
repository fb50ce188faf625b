-- Where a filter stops, and when it is over.
use Rattle.std.specs.Prelude.{ℕ, zero, suc, ◌+◌, Bool, ◌&&◌, ◌||◌, not, if◌then◌else◌, List, is_none}
use Rattle.filter_model.specs.Filter.{Filter, holds}

-- the first number from n on at which the test holds, or n + left where none of so many does
abbrev pub first_from : (ℕ → Bool) → ℕ → ℕ → ℕ
first_from stop n zero = n
first_from stop n (suc left) = if stop n then n else first_from stop (n + 1) left

-- A filter is finished at a good end, where it holds nothing back or its target has room.
abbrev pub is_over : Filter → List ℕ → Bool → Bool
is_over f xs room = is_none (f.bad_at_end xs) && (not (holds f xs) || room)
