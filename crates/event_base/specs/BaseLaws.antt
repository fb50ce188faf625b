-- What holds over any calls on a base: of deleted and of freed events, and of persistent timers.
use Rattle.std.specs.Prelude.{◌≡◌, ◌≢◌, ℕ, ◌+◌, ◌<◌, ◌≤◌, true, false, List, slice_get, Option, Some, Ok, Err}
use Rattle.std.specs.List.{list_any}
use Rattle.event_base.specs.declared.event.Event.{Event}
use Rattle.event_base.specs.declared.event.Timeout.{Timeout}
use Rattle.event_base.specs.declared.fault.BaseFault.TheVariants.{NoEvent}
use Rattle.event_base.specs.Base.{BaseValue}
use Rattle.event_base.specs.Events.{has_timed_out}
use Rattle.event_base.specs.Calls.{set_priority, add_event, del_event, activate, begin_turn, next_active, next_fire}
use Rattle.event_base.specs.Turns.{time_at, wakes, comes_before}
use Rattle.event_base.specs.Tied.{value_at, place_of}
use Rattle.event_base.specs.Freeing.{free_event, is_pending}
use Rattle.event_base.specs.CallsInARow.{BaseCall, LeadsTo, rouses}

-- no callback of the event is next
abbrev pub HasNoCallback : ℕ → BaseValue → Type 0
HasNoCallback k b = (flags : ℕ) → next_fire b ≢ Some (k, flags)

-- A deleted event is not pending, and no callback of it is next, until it is added or made active by its number: no
-- signal, no turn and no callback of another event rouses it.
abbrev pub DeletedIsQuiet : Type 0
DeletedIsQuiet = (before deleted last : BaseValue) (k : ℕ) (calls : List BaseCall) → del_event before k ≡ Ok deleted
    → LeadsTo deleted calls last → list_any (rouses k) calls ≡ false → HasNoCallback k last × (is_pending last k ≢ Ok true)

-- no call finds the event
pub record IsUnknown (k : ℕ) (b : BaseValue) : Type 0 where
  pub set : (priority : ℕ) → set_priority b k priority ≡ Err NoEvent
  pub added : (timeout : Option ℕ) → add_event b k timeout ≡ Err NoEvent
  pub deleted : del_event b k ≡ Err NoEvent
  pub freed : free_event b k ≡ Err NoEvent
  pub activated : (what : ℕ) → activate b k what ≡ Err NoEvent
  pub pending : is_pending b k ≡ Err NoEvent

-- Whatever calls follow, a freed event has no callback more, and no call finds it.
abbrev pub FreedIsGone : Type 0
FreedIsGone = (before freed last : BaseValue) (k : ℕ) (calls : List BaseCall) → free_event before k ≡ Ok freed
    → LeadsTo freed calls last → HasNoCallback k last × IsUnknown k last

-- To which timeout one is set again at a time, as a callback starts with these flags: a delay behind its deadline where it fired
-- and that is not past, and else a delay after now. Its order number of adding is this one.
pub record IsSetAgain (time number flags : ℕ) (old new : Timeout) : Type 0 where
  pub beat : has_timed_out flags ≡ true → time ≤ old.deadline + old.delay → new.deadline ≡ old.deadline + old.delay
  pub late : has_timed_out flags ≡ true → old.deadline + old.delay < time → new.deadline ≡ time + old.delay
  pub early : has_timed_out flags ≡ false → new.deadline ≡ time + old.delay
  pub delay : new.delay ≡ old.delay
  pub order : new.order ≡ number

-- the event is as pending as another, with this timeout
abbrev pub WaitsAgain : Event → Timeout → Event → Type 0
WaitsAgain e t after = (after.pending ≡ e.pending) × (after.timeout ≡ Some t)

-- A persistent timer stays pending as its callback starts, and is set again behind all that were added.
abbrev pub PersistentIsSetAgain : Type 0
PersistentIsSetAgain = (b next : BaseValue) (k flags : ℕ) (e : Event) (t : Timeout) → next_fire b ≡ Some (k, flags)
    → next_active b ≡ Ok next → slice_get b.events k ≡ Some e → e.persist ≡ true → e.timeout ≡ Some t
    → (after : Event) × (u : Timeout) × (slice_get next.events k ≡ Some after) × WaitsAgain e u after
    × IsSetAgain b.time (b.last_adding + 1) flags t u

-- the place of an event among the active ones, its priority and its order number of activation, is that of another base
abbrev pub KeepsPlace : ℕ → BaseValue → BaseValue → Type 0
KeepsPlace k b c = value_at place_of c.events k ≡ value_at place_of b.events k

-- Of two events of one priority that a turn makes active by their timeouts, the one with the earlier deadline, or of equal ones that
-- was added before, has its call first: as long as both stand as that turn left them, the other's is not next.
abbrev pub TimersFireInOrder : Type 0
TimersFireInOrder = (b begun last : BaseValue) (now first second : ℕ) (e o : Event) (t u : Timeout) → begin_turn b now ≡ Ok begun
    → slice_get b.events first ≡ Some e → wakes (time_at b.time now) e ≡ true → e.timeout ≡ Some t
    → slice_get b.events second ≡ Some o → wakes (time_at b.time now) o ≡ true → o.timeout ≡ Some u
    → comes_before t u ≡ true → e.priority ≡ o.priority → KeepsPlace first begun last → KeepsPlace second begun last → HasNoCallback second last
