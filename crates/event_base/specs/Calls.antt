-- Each call on a base: the base behind it, or why it is refused. What stands first among the refusals is told.
use Rattle.std.specs.Prelude.{◌≡◌, ℕ, ◌+◌, ◌-◌, ◌/◌, ◌^◌, ◌==◌, ◌&&◌, ◌||◌, not, Bool, true, false, if◌then◌else◌, nat_lt, [], ◌∷◌, ◌++◌, length, map, count_by, slice_get, slice_set, Option, Some, None, is_some, unwrap_or, Result, Ok, Err}
use Rattle.std.specs.List.{list_any}
use Rattle.std.specs.Option.{option_map, option_map_or}
use Rattle.event_base.specs.declared.event.Event.{Event}
use Rattle.event_base.specs.declared.event.Activation.{Activation}
use Rattle.event_base.specs.declared.fault.BaseFault.{BaseFault}
use Rattle.event_base.specs.declared.fault.BaseFault.TheVariants.{Memory, BadPriority, NoEvent, IsActive, Spent}
use Rattle.event_base.specs.Base.{BaseValue}
use Rattle.event_base.specs.Events.{made, is_active, activated, added, deleted, unless_freed, called}
use Rattle.event_base.specs.Turns.{time_at, wakes, timed_out, least, active_priority, deadline_of, next_event}
use Rattle.event_base.specs.Fires.{is_woken_by, signalled, overflows, is_past_numbers, is_set_again}

-- A call that can be refused: the base behind it, or the refusal.
abbrev pub Step : Type 0
Step = Result BaseValue BaseFault

-- What answers a call: a refusal exactly where the call has one, and want of memory only where it has none.
abbrev pub IsAnswer : BaseFault → Step → Type 0
IsAnswer fault (Ok b) = fault ≡ Memory
IsAnswer fault (Err refusal) = fault ≡ refusal

-- a new base has no events, and its time is 0
abbrev pub new_base : ℕ → BaseValue
new_base priorities = record {
  priorities = priorities;
  time = 0;
  events = [];
  last_adding = 0;
  delays = [];
  next_activation = 0;
  batch_priority = 0;
  batch_end = 0;
  broken = false;
  exiting = false;
}

-- may so many numbers more be handed out, when so many were
abbrev pub fit : ℕ → ℕ → Bool
fit next more = nat_lt (next + more) (2 ^ 64)

-- a new event has the priority in the middle, and the number of the events that were made before
abbrev pub new_event : BaseValue → Bool → Option ℕ → Step
new_event b persist signal =
    if nat_lt (length b.events) (2 ^ 32)
    then Ok (record b { events = b.events ++ made persist signal (b.priorities / 2) ∷ [] }) else Err Spent

-- what a call does to an event that was made and not freed
abbrev pub at_event : BaseValue → ℕ → (Event → Step) → Step
at_event b number step = option_map_or step (unless_freed (slice_get b.events number)) (Err NoEvent)

-- the base with this event in the place of the one with its number
abbrev pub with_event : BaseValue → ℕ → Event → BaseValue
with_event b number e = record b { events = slice_set b.events number e }

-- the priority of an event that is not active
abbrev pub set_priority : BaseValue → ℕ → ℕ → Step
set_priority b number priority = at_event b number (λ e.
    if not (nat_lt priority b.priorities) then Err BadPriority
    else (if is_active e then Err IsActive else Ok (with_event b number (record e { priority = priority }))))

-- adds an event, with a deadline so long after now or with none
abbrev pub add_event : BaseValue → ℕ → Option ℕ → Step
add_event b number None = at_event b number (λ e. Ok (with_event b number (added None e)))
add_event b number (Some delay) = at_event b number (λ e.
    if fit b.last_adding 1
    then Ok (record (with_event b number (added (Some (record {
      deadline = b.time + delay;
      delay = delay;
      order = b.last_adding + 1;
    })) e)) { last_adding = b.last_adding + 1 })
    else Err Spent)

abbrev pub del_event : BaseValue → ℕ → Step
del_event b number = at_event b number (λ e. Ok (with_event b number (deleted e)))

-- makes an event active with these flags, for one call where it is not active yet
abbrev pub activate : BaseValue → ℕ → ℕ → Step
activate b number what = at_event b number (λ e.
    let woken = if is_active e then 0 else 1 in
    if fit b.next_activation woken
    then Ok (record (with_event b number (activated what b.next_activation 1 0 e)) { next_activation = b.next_activation + woken })
    else Err Spent)

-- a signal came so many times
abbrev pub signal : BaseValue → ℕ → ℕ → Step
signal b number count =
    if count == 0 then Ok b
    else (let woken = count_by (is_woken_by number) b.events in
    if fit b.next_activation woken && not (list_any (overflows number count) b.events)
    then Ok (record b { events = signalled number count b.next_activation b.events; next_activation = b.next_activation + woken })
    else Err Spent)

-- the loop is over: it broke, or it was told to exit and the batch has no call left
abbrev pub ended : BaseValue → Bool
ended b = b.broken || (b.exiting && not (is_some (next_event b)))

-- A turn begins: due events become active, and the batch is what is active of the most urgent priority: none, once the loop is over.
abbrev pub begin_turn : BaseValue → ℕ → Step
begin_turn b now =
    let time = time_at b.time now in
    let woken = count_by (wakes time) b.events in
    let events = map (timed_out time b.next_activation b.events) b.events in
    if fit b.next_activation woken
    then Ok (record b {
      time = time;
      events = events;
      next_activation = b.next_activation + woken;
      batch_priority = unwrap_or (least active_priority events) 0;
      batch_end = if ended b then 0 else b.next_activation + woken;
    })
    else Err Spent

-- the callback of an active event starts
abbrev pub call : BaseValue → ℕ → Event → Activation → Step
call b number e a =
    if is_past_numbers b.time (b.last_adding + 1) a.flags e then Err Spent
    else Ok (record (with_event b number (called b.time (b.last_adding + 1) a e)) {
      last_adding = b.last_adding + (if is_set_again e then 1 else 0);
    })

-- the event whose callback is next, unless the loop broke
abbrev pub next_call : BaseValue → Option ℕ
next_call b = if b.broken then None else next_event b

-- the event that fires next and its flags, where there is one
abbrev pub next_fire : BaseValue → Option (ℕ × ℕ)
next_fire b = option_map_or (λ number.
    option_map_or (λ e. option_map (λ a. (number, a.flags)) e.active) (slice_get b.events number) None) (next_call b) None

-- the next callback of the batch starts, where there is one
abbrev pub next_active : BaseValue → Step
next_active b = option_map_or (λ number. option_map_or (λ e. option_map_or (call b number e) e.active (Ok b))
    (slice_get b.events number) (Err NoEvent)) (next_call b) (Ok b)

-- How long to wait for the next turn: not at all where an event is active, else until the least deadline.
abbrev pub poll_timeout : BaseValue → Option ℕ
poll_timeout b =
    if list_any is_active b.events then Some 0
    else option_map (λ deadline. deadline - b.time) (least deadline_of b.events)

abbrev pub loop_break : BaseValue → BaseValue
loop_break b = record b { broken = true }

abbrev pub loop_exit : BaseValue → BaseValue
loop_exit b = record b { exiting = true }
