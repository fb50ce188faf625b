-- How long a poll may wait, and at which polls the kernel is asked though something is ready.
use Rattle.std.specs.Prelude.{ℕ, ◌+◌, ◌%◌, min, ◌==◌, Bool, if◌then◌else◌, Option, Some, None}

-- how many polls went by after one more
abbrev pub looks_after : ℕ → ℕ
looks_after skipped = (skipped + 1) % 16

abbrev pub is_due : ℕ → Bool
is_due skipped = looks_after skipped == 0

-- the sooner of the two, where there are two
abbrev pub cut_to : Option ℕ → Option ℕ → Option ℕ
cut_to (Some timeout) (Some pause) = Some (min timeout pause)
cut_to None pause = pause
cut_to (Some timeout) None = Some timeout

-- How long a poll may wait: not at all where something that is asked for is ready, and else as long as it was told, but where links are
-- asked for with the pause at the latest.
abbrev pub longest_wait : Bool → Bool → Option ℕ → Option ℕ → Option ℕ
longest_wait is_any accept timeout pause = if is_any then Some 0 else (if accept then cut_to timeout pause else timeout)
