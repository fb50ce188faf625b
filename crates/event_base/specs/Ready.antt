-- Which events are active, and in which order those of one priority became so.
use Rattle.std.specs.Prelude.{◌≡◌, ℕ, ◌+◌, ◌<◌, ◌≤◌, ◌==◌, if◌then◌else◌, false, List, [], ◌∷◌, length, slice_set, Option, Some, None}
use Rattle.std.specs.Prelude.{MatchOption}
use Rattle.std.specs.Option.{option_map}
use Rattle.event_base.specs.declared.ready.Place.{Place}
use Rattle.event_base.specs.declared.ready.Waking.{Waking}
use Rattle.prio_queue.specs.Queues.{queue_of, appended, is_queued}
use Rattle.event_base.specs.Rising.{at, IsLeading, Rises}

-- The place of each active event, by the number of the event, and the next order number of activation. Events with no
-- place are not active.
pub record ReadyValue : Type 0 where
  pub priorities : ℕ
  pub places : List (Option Place)
  pub next : ℕ

-- the order number of an event of this priority
abbrev pub order_in : ℕ → Option Place → Option ℕ
order_in priority None = None
order_in priority (Some place) = if place.priority == priority then Some place.order else None

-- the order numbers of the events of one priority
abbrev pub orders : ℕ → List (Option Place) → ℕ → Option ℕ
orders priority places k = order_in priority (at places k)

-- the priorities of the active events
abbrev pub priorities : List (Option Place) → ℕ → Option ℕ
priorities places k = option_map (λ place. place.priority) (at places k)

-- it is the least of some numbers, or there are none
abbrev pub IsLeast : (ℕ → Option ℕ) → Option ℕ → Type 0
IsLeast f None = (k : ℕ) → f k ≡ None
IsLeast f (Some n) = ((k : ℕ) × (f k ≡ Some n)) × ((j m : ℕ) → f j ≡ Some m → n ≤ m)

-- it is the event of the priority that was made active first, or there is none
abbrev pub IsFront : ℕ → List (Option Place) → Option ℕ → Type 0
IsFront priority places None = (k : ℕ) → orders priority places k ≡ None
IsFront priority places (Some k) = IsLeading ◌<◌ k (orders priority places)

-- it is the event of the priority that was made active first, if its order number is below the end
abbrev pub IsNext : ℕ → ℕ → List (Option Place) → Option ℕ → Type 0
IsNext priority end places None = (k v : ℕ) → orders priority places k ≡ Some v → end ≤ v
IsNext priority end places (Some k) = IsFront priority places (Some k) × ((v : ℕ) → orders priority places k ≡ Some v → v < end)

-- the places as some events become active one after another, with the order numbers from the next one on
abbrev pub woken : List (Option Place) → ℕ → List Waking → List (Option Place)
woken places next [] = places
woken places next (w ∷ ws) =
    woken (slice_set places w.event (Some (record { priority = w.priority; order = next }))) (next + 1) ws

-- each of the events can become active behind those before it: it is known, not active, and its priority is there
abbrev pub CanWake : ℕ → List (Option Place) → ℕ → List Waking → Type 0
CanWake priorities places next [] = Unit {0}
CanWake priorities places next (w ∷ ws) =
    (w.event < length places) × (at places w.event ≡ None) × (w.priority < priorities)
    × CanWake priorities (slice_set places w.event (Some (record { priority = w.priority; order = next }))) (next + 1) ws

-- the queues as some events are appended one after another
abbrev pub appended_all : List (List ℕ) → List Waking → List (List ℕ)
appended_all queues [] = queues
appended_all queues (w ∷ ws) = appended_all (appended queues w.priority w.event) ws

-- each of the events can be appended behind those before it: it stands in no queue, and its priority is there
abbrev pub CanAppend : List (List ℕ) → List Waking → Type 0
CanAppend queues [] = Unit {0}
CanAppend queues (w ∷ ws) =
    (is_queued w.event queues ≡ false) × (w.priority < length queues) × CanAppend (appended queues w.priority w.event) ws

-- What holds of the queues and the places beside them: each queue has the events of its priority, in the order of
-- their activation, and no order number is used again.
pub record IsPlaced (queues : List (List ℕ)) (places : List (Option Place)) (next : ℕ) : Type 0 where
  pub rises : (priority : ℕ) → Rises ◌<◌ (queue_of queues priority) (orders priority places)
  pub below : (k : ℕ) (place : Place) → at places k ≡ Some place → place.order < next
