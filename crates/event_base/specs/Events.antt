-- What becomes of one event as it is made, added, deleted, made active and called.
use Rattle.std.specs.Prelude.{ℕ, ◌+◌, ◌-◌, ◌==◌, ◌&&◌, Bool, true, false, if◌then◌else◌, nat_lt, nat_le, Option, Some, None, is_some}
use Rattle.std.specs.Prelude.{bit_and, bit_or}
use Rattle.std.specs.Option.{option_map, option_map_or}
use Rattle.event_base.specs.declared.event.Event.{Event}
use Rattle.event_base.specs.declared.event.Timeout.{Timeout}
use Rattle.event_base.specs.declared.event.Activation.{Activation}

-- a new event is not pending and not active
abbrev pub made : Bool → Option ℕ → ℕ → Event
made persist signal priority = record {
  pending = false;
  timeout = None;
  priority = priority;
  persist = persist;
  signal = signal;
  active = None;
  freed = false;
}

abbrev pub is_active : Event → Bool
is_active e = is_some e.active

-- do the flags say that the timeout fired
abbrev pub has_timed_out : ℕ → Bool
has_timed_out flags = bit_and flags 1 == 1

-- An active event gets the flag beside its others and so many calls more; one that is not active becomes active with
-- the flag, the order number and so many first calls.
abbrev pub joined : ℕ → ℕ → ℕ → ℕ → Option Activation → Activation
joined flag order first more None = record { flags = flag; order = order; count = first }
joined flag order first more (Some a) = record { flags = bit_or a.flags flag; order = a.order; count = a.count + more }

abbrev pub activated : ℕ → ℕ → ℕ → ℕ → Event → Event
activated flag order first more e = record e { active = Some (joined flag order first more e.active) }

-- a new timeout takes an event out of its active queue where its timeout had made it active
abbrev pub not_by_timeout : Option Activation → Option Activation
not_by_timeout None = None
not_by_timeout (Some a) = if has_timed_out a.flags then None else Some a

-- An event that is added is pending. Without a timeout it keeps what it had; with one, it has that deadline from then on,
-- and is no longer active by an older one.
abbrev pub added : Option Timeout → Event → Event
added None e = record e { pending = true }
added (Some t) e = record e { pending = true; timeout = Some t; active = not_by_timeout e.active }

-- a deleted event is neither pending nor active, and no call of its callback is owed
abbrev pub deleted : Event → Event
deleted e = record e { pending = false; timeout = None; active = None }

-- a freed event is a deleted one that no call finds any more
abbrev pub freed_event : Event → Event
freed_event e = record (deleted e) { freed = true }

-- the event, unless it was freed
abbrev pub unless_freed : Option Event → Option Event
unless_freed None = None
unless_freed (Some e) = if e.freed then None else Some e

-- The deadline to which a timeout is set again as a callback starts with these flags: the delay after the scheduled
-- moment where the timeout fired, and else after now; where that is before now, the delay after now.
abbrev pub next_deadline : ℕ → ℕ → Timeout → ℕ
next_deadline time flags t =
    let next = (if has_timed_out flags then t.deadline else time) + t.delay in
    if nat_lt next time then time + t.delay else next

-- a timeout that is set again
abbrev pub set_again : ℕ → ℕ → ℕ → Timeout → Timeout
set_again time order flags t = record { deadline = next_deadline time flags t; delay = t.delay; order = order }

-- one call less is owed; an event of which none is owed is not active
abbrev pub one_less : Activation → Option Activation
one_less a = if nat_le a.count 1 then None else Some (record a { count = a.count - 1 })

-- the timeout that is set again as a callback of the event starts: that of a persistent event
abbrev pub again : Event → Option Timeout
again e = if e.persist then e.timeout else None

-- An event as its callback starts. A persistent event stays pending, and its timeout is set again; any other stops being
-- pending.
abbrev pub called : ℕ → ℕ → Activation → Event → Event
called time order a e = record e {
  pending = e.persist && e.pending;
  timeout = option_map (set_again time order a.flags) (again e);
  active = one_less a;
}
