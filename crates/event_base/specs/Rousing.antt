-- Events that get a flag one after another.
use Rattle.std.specs.Prelude.{◌≡◌, ℕ, ◌+◌, ◌<◌, ◌^◌, ◌==◌, if◌then◌else◌, false, List, [], ◌∷◌, length, slice_set, None}
use Rattle.std.specs.List.{list_any, slice_index_or}
use Rattle.std.specs.Option.{ForSome}
use Rattle.event_base.specs.declared.event.Event.{Event}
use Rattle.event_base.specs.declared.ready.Waking.{Waking}
use Rattle.event_base.specs.Events.{made, is_active, activated}

-- the event with a number, and one that does nothing where there is none
abbrev pub event_of : List Event → ℕ → Event
event_of events k = slice_index_or events k (made false None 0)

-- one more order number is needed for an event that is not active yet
abbrev pub needed : Event → ℕ
needed e = if is_active e then 0 else 1

-- The events as some of them get a flag, one after another: those that were not active become so for so many first calls,
-- with the order numbers from the next one on; the others owe so many calls more.
abbrev pub risen : ℕ → ℕ → ℕ → List Event → ℕ → List ℕ → List Event
risen flag first more events next [] = events
risen flag first more events next (k ∷ ks) =
    risen flag first more (slice_set events k (activated flag next first more (event_of events k))) (next + needed (event_of events k)) ks

-- those of them that become active
abbrev pub wakers : List Event → List ℕ → List Waking
wakers events [] = []
wakers events (k ∷ ks) =
    if is_active (event_of events k) then wakers events ks
    else record { event = k; priority = (event_of events k).priority } ∷ wakers events ks

-- no number stands in the list twice
abbrev pub AreApart : List ℕ → Type 0
AreApart [] = Unit {0}
AreApart (k ∷ ks) = (list_any (λ j. j == k) ks ≡ false) × AreApart ks

-- each of the events is there, and no count and no order number passes what is kept
abbrev pub CanRise : ℕ → ℕ → ℕ → List Event → ℕ → List ℕ → Type 0
CanRise flag first more events next [] = Unit {0}
CanRise flag first more events next (k ∷ ks) =
    (k < length events) × (0 < more → ForSome (event_of events k).active (λ a. a.count + more < 2 ^ 64))
    × (next + needed (event_of events k) < 2 ^ 64)
    × CanRise flag first more (slice_set events k (activated flag next first more (event_of events k))) (next + needed (event_of events k)) ks
