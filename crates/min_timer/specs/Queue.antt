-- What a contract sees of the timers: a list of those that wait, in the order in which they come due.
use Rattle.std.specs.Prelude.{ℕ, ◌==◌, ◌&&◌, Bool, not, nat_lt, nat_le, if◌then◌else◌, List, [], ◌∷◌, ◌++◌, length, filter}
use Rattle.std.specs.Prelude.{Option, Some, None}
use Rattle.std.specs.List.{find, list_any}
use Rattle.min_timer.specs.declared.key.TimerKey.{TimerKey}
use Rattle.min_timer.specs.declared.timer.Timer.{Timer}

-- the timers that wait, by deadline and among equal deadlines by number, the number of the last one that was
-- added, or 0, and the delays that were registered, in the order of registering
pub record TimerQueue : Type 0 where
  pub pending : List Timer
  pub last : ℕ
  pub delays : List ℕ

-- the order number of the timer of a handle: 1 for the first that was added, then 2, and so on
abbrev pub number_of : TimerKey → ℕ
number_of handle = handle.stamp

-- the timer has this handle
abbrev pub is_timer_of : TimerKey → Timer → Bool
is_timer_of handle timer = timer.handle.slot == handle.slot && timer.handle.stamp == handle.stamp

-- the timer that waits under the handle
abbrev pub timer_of : TimerKey → List Timer → Option Timer
timer_of handle pending = find (is_timer_of handle) pending

-- the others
abbrev pub without : TimerKey → List Timer → List Timer
without handle pending = filter (λ timer. not (is_timer_of handle timer)) pending

-- the timer stands before the first that comes due later than it
abbrev pub with_timer : Timer → List Timer → List Timer
with_timer timer [] = timer ∷ []
with_timer timer (first ∷ rest) =
    if nat_lt timer.deadline first.deadline then timer ∷ first ∷ rest else first ∷ with_timer timer rest

-- the deadline of the first timer
abbrev pub first_deadline : List Timer → Option ℕ
first_deadline [] = None
first_deadline (first ∷ rest) = Some first.deadline

-- the first timer's key and deadline, if it is due at the moment
abbrev pub first_due : ℕ → List Timer → Option (ℕ × ℕ)
first_due now [] = None
first_due now (first ∷ rest) = if nat_le first.deadline now then Some (first.key, first.deadline) else None

-- the timers without the first, if that is due at the moment
abbrev pub after_due : ℕ → List Timer → List Timer
after_due now [] = []
after_due now (first ∷ rest) = if nat_le first.deadline now then rest else first ∷ rest

-- the keys of the timers that are due at the moment, in their order
abbrev pub due_keys : ℕ → List Timer → List ℕ
due_keys now [] = []
due_keys now (first ∷ rest) = if nat_le first.deadline now then first.key ∷ due_keys now rest else []

-- the delay is registered
abbrev pub has_delay : ℕ → List ℕ → Bool
has_delay delay delays = list_any (λ other. other == delay) delays

-- a delay that is not registered comes behind the others
abbrev pub with_delay : ℕ → List ℕ → List ℕ
with_delay delay delays = if has_delay delay delays then delays else delays ++ delay ∷ []

-- 256 other delays are registered
abbrev pub are_too_many : ℕ → List ℕ → Bool
are_too_many delay delays = not (has_delay delay delays) && nat_le 256 (length delays)
