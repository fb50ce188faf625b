-- The timers of a heap that are due, each with its place.
use Rattle.std.specs.Prelude.{◌≡◌, ℕ, ◌+◌, ◌*◌, ◌<◌, ◌≤◌, ◌&&◌, nat_lt, nat_le, if◌then◌else◌}
use Rattle.std.specs.Prelude.{List, [], ◌∷◌, ◌++◌, length, get_or, All, Contains}
use Rattle.std.specs.List.{AllPairs}
use Rattle.min_timer.specs.declared.due.Due.{Due}
use Rattle.min_timer.specs.declared.timer.Timer.{Timer}

-- the timer at the place
abbrev pub timer_in : List Timer → ℕ → Timer
timer_in timers at = get_or timers at (record { deadline = 0; key = 0; handle = record { slot = 0; stamp = 0 } })

-- the timer at the place, with its place
abbrev pub entry_at : List Timer → ℕ → Due
entry_at timers at =
    record {
      deadline = (timer_in timers at).deadline;
      stamp = (timer_in timers at).handle.stamp;
      key = (timer_in timers at).key;
      place = at;
    }

-- the place has a timer that is due at the moment
abbrev pub IsDueAt : List Timer → ℕ → ℕ → Type 0
IsDueAt timers now at = (at < length timers) × ((timer_in timers at).deadline ≤ now)

-- the timer at the place, if there is one and it is due at the moment
abbrev pub found_at : List Timer → ℕ → ℕ → List Due
found_at timers now at =
    if nat_lt at (length timers) && nat_le (timer_in timers at).deadline now then entry_at timers at ∷ [] else []

-- the timers that are due at the moment directly below the place
abbrev pub found_below : List Timer → ℕ → ℕ → List Due
found_below timers now at =
    found_at timers now (4 * at + 1)
    ++ (found_at timers now (4 * at + 2) ++ (found_at timers now (4 * at + 3) ++ found_at timers now (4 * at + 4)))

-- timers that are due at the moment, by their places
pub record AreFoundDue (timers : List Timer) (now : ℕ) (due : List Due) : Type 0 where
  pub rising : AllPairs (λ first second. first.place < second.place) due
  pub each : All (λ e. IsDueAt timers now e.place × (e ≡ entry_at timers e.place)) due

-- all timers that are due at the moment, by their places
pub record AreAllDue (timers : List Timer) (now : ℕ) (due : List Due) : Type 0 where
  pub part : AreFoundDue timers now due
  pub all : (at : ℕ) → IsDueAt timers now at → Contains due (entry_at timers at)
