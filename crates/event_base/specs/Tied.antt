-- What is kept beside the events, by their numbers: the place of each active one, and the moment of each deadline.
use Rattle.std.specs.Prelude.{◌≡◌, ℕ, ◌<◌, ◌≤◌, ◌^◌, List, length, slice_get, Option, Some, None, All}
use Rattle.std.specs.Option.{option_map, option_and_then}
use Rattle.event_base.specs.declared.event.Event.{Event}
use Rattle.event_base.specs.declared.event.Timeout.{Timeout}
use Rattle.event_base.specs.declared.ready.Place.{Place}
use Rattle.event_base.specs.Rising.{at}
use Rattle.event_base.specs.Deadlines.{Moment, DeadlinesValue}
use Rattle.event_base.specs.Ready.{ReadyValue}

abbrev pub place_of : Event → Option Place
place_of e = option_map (λ a. record { priority = e.priority; order = a.order }) e.active

abbrev pub moment_at : Timeout → Moment
moment_at t = record { deadline = t.deadline; order = t.order }

abbrev pub moment_of : Event → Option Moment
moment_of e = option_map moment_at e.timeout

-- what is kept of an event by its number
abbrev pub value_at : {V : Type 0} → (Event → Option V) → List Event → ℕ → Option V
value_at value events k = option_and_then value (slice_get events k)

-- the list has what is kept of each event, and nothing else
abbrev pub Mirrors : {V : Type 0} → (Event → Option V) → List (Option V) → List Event → Type 0
Mirrors value values events = (k : ℕ) → at values k ≡ value_at value events k

-- What is kept beside the events: the queues have the active ones, the timers those with a deadline, there is room for
-- all, every event has one of the priorities, and its number fits a u32.
pub record AreKept (events : List Event) (deadlines : DeadlinesValue) (ready : ReadyValue) : Type 0 where
  pub placed : Mirrors place_of ready.places events
  pub timed : Mirrors moment_of deadlines.moments events
  pub places : length events ≤ length ready.places
  pub moments : length events ≤ length deadlines.moments
  pub few : length events ≤ 2 ^ 32
  pub some : 1 ≤ ready.priorities
  pub within : All (λ (e : Event). e.priority < ready.priorities) events
