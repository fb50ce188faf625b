-- What a turn makes active, and which events its batch has.
use Rattle.std.specs.Prelude.{ℕ, ◌+◌, ◌^◌, ◌==◌, ◌&&◌, ◌||◌, not, Bool, true, false, if◌then◌else◌, nat_lt, nat_le, max, min, List, [], ◌∷◌}
use Rattle.std.specs.Prelude.{map, count_by, position, Option, Some, None, unwrap_or}
use Rattle.std.specs.List.{list_any}
use Rattle.std.specs.Option.{option_map_or}
use Rattle.event_base.specs.declared.event.Event.{Event}
use Rattle.event_base.specs.declared.event.Timeout.{Timeout}
use Rattle.event_base.specs.Base.{BaseValue}
use Rattle.event_base.specs.Events.{is_active, activated}

-- the greatest clock reading so far, each reading cut at 2^62
abbrev pub time_at : ℕ → ℕ → ℕ
time_at time now = max time (min now (2 ^ 62))

-- is the deadline of the event at most now
abbrev pub is_due : ℕ → Event → Bool
is_due time e = option_map_or (λ t. nat_le t.deadline time) e.timeout false

-- does the event become active by its timeout, which it is not yet
abbrev pub wakes : ℕ → Event → Bool
wakes time e = is_due time e && not (is_active e)

-- does a timeout come before another: by deadline, and of equal deadlines by the order of adding
abbrev pub comes_before : Timeout → Timeout → Bool
comes_before t other = nat_lt t.deadline other.deadline || (t.deadline == other.deadline && nat_lt t.order other.order)

-- does the event become active by its timeout before one with this timeout
abbrev pub wakes_before : ℕ → Timeout → Event → Bool
wakes_before time other e = wakes time e && option_map_or (λ t. comes_before t other) e.timeout false

-- A due event gets the flag of a timeout. Those that become active by it do so in the order of their timeouts: the
-- order number is the next one and one more for each that comes before.
abbrev pub timed_out : ℕ → ℕ → List Event → Event → Event
timed_out time next events e =
    option_map_or (λ t. if nat_le t.deadline time
    then activated 1 (next + count_by (wakes_before time t) events) 1 0 e else e) e.timeout e

-- the least number that events have, where any has one
abbrev pub least : (Event → Option ℕ) → List Event → Option ℕ
least number [] = None
least number (e ∷ es) =
    option_map_or (λ n. Some (option_map_or (λ m. min n m) (least number es) n)) (number e) (least number es)

abbrev pub active_priority : Event → Option ℕ
active_priority e = if is_active e then Some e.priority else None

abbrev pub deadline_of : Event → Option ℕ
deadline_of e = option_map_or (λ t. Some t.deadline) e.timeout None

-- is the event in the turn's batch
abbrev pub in_batch : BaseValue → Event → Bool
in_batch b e = e.priority == b.batch_priority && option_map_or (λ a. nat_lt a.order b.batch_end) e.active false

-- was an event made active before another
abbrev pub made_earlier : Event → Event → Bool
made_earlier e other =
    option_map_or (λ a. option_map_or (λ c. nat_lt a.order c.order) other.active false) e.active false

-- is the event in the batch, and none of the batch was made active before it
abbrev pub is_first : BaseValue → Event → Bool
is_first b e = in_batch b e && not (list_any (λ other. in_batch b other && made_earlier other e) b.events)

-- the number of the event whose callback is next
abbrev pub next_event : BaseValue → Option ℕ
next_event b = position (is_first b) b.events
