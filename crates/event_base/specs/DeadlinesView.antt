-- How the deadlines are kept: a timer for each, and beside them the handle of each event's timer.
use Rattle.std.specs.Prelude.{◌≡◌, ◌≢◌, ℕ, ◌≤◌, List, map, Option, Some, All}
use Rattle.std.specs.Option.{option_map}
use Rattle.min_timer.specs.declared.timer.Timer.{Timer}
use Rattle.min_timer.specs.Queue.{number_of}
use Rattle.event_base.specs.declared.deadlines.Waiting.{Waiting}
use Rattle.event_base.specs.declared.deadlines.Deadlines.TheInside.{Inside}
use Rattle.event_base.specs.Rising.{at, Rises}
use Rattle.event_base.specs.Deadlines.{Moment, DeadlinesValue, IsSooner}

-- the deadline of an event and the number of its timer
abbrev pub moment : Waiting → Moment
moment w = record { deadline = w.deadline; order = number_of w.timer }

abbrev pub moments : List (Option Waiting) → List (Option Moment)
moments waiting = map (option_map moment) waiting

-- what an event keeps of its timer
abbrev pub kept : Timer → Waiting
kept timer = record { deadline = timer.deadline; timer = timer.handle }

-- The timers are those of the events, in the order of their moments; each event has the handle of its own timer, and no
-- two timers have one number.
pub record IsTimed (pending : List Timer) (waiting : List (Option Waiting)) (last : ℕ) : Type 0 where
  pub rises : Rises IsSooner (map (λ timer. timer.key) pending) (at (moments waiting))
  pub handles : All (λ timer. at waiting timer.key ≡ Some (kept timer)) pending
  pub below : (k : ℕ) (w : Waiting) → at waiting k ≡ Some w → number_of w.timer ≤ last
  pub apart : (j k : ℕ) (v w : Waiting) → j ≢ k → at waiting j ≡ Some v → at waiting k ≡ Some w → number_of v.timer ≢ number_of w.timer

abbrev pub deadlines_of : Inside → DeadlinesValue
deadlines_of d = record { moments = moments d.waiting.items; last = d.timers.last; delays = d.timers.delays }

abbrev pub AreDeadlines : Inside → Type 0
AreDeadlines d = IsTimed d.timers.pending d.waiting.items d.timers.last
