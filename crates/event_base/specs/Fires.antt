-- What a signal and a call make active, and what the start of a callback changes.
use Rattle.std.specs.Prelude.{ℕ, ◌+◌, ◌^◌, ◌==◌, ◌&&◌, ◌||◌, not, Bool, true, false, if◌then◌else◌, nat_lt, List, [], ◌∷◌, count_by, Option}
use Rattle.std.specs.Prelude.{Some, None, is_some}
use Rattle.std.specs.List.{list_any}
use Rattle.std.specs.Option.{option_map_or}
use Rattle.event_base.specs.declared.event.Event.{Event}
use Rattle.event_base.specs.Events.{is_active, activated, again, next_deadline}

-- Is the event pending, and of the signal with this number
abbrev pub hears : ℕ → Event → Bool
hears number e = e.pending && option_map_or (λ s. s == number) e.signal false

-- does the event become active by the signal, which it is not yet
abbrev pub is_woken_by : ℕ → Event → Bool
is_woken_by number e = hears number e && not (is_active e)

-- the numbers of the pending events of the signal, from a number on
abbrev pub hearing : ℕ → ℕ → List Event → List ℕ
hearing number from [] = []
hearing number from (e ∷ es) = if hears number e then from ∷ hearing number (from + 1) es else hearing number (from + 1) es

-- Each pending event of the signal gets its flag and so many calls. Those that become active do so in the order of
-- their making, with the order numbers from the next one on.
abbrev pub signalled : ℕ → ℕ → ℕ → List Event → List Event
signalled number count next [] = []
signalled number count next (e ∷ es) =
    (if hears number e then activated 8 next count count e else e)
    ∷ signalled number count (next + (if is_woken_by number e then 1 else 0)) es

-- would the calls that the event owes pass what is counted
abbrev pub overflows : ℕ → ℕ → Event → Bool
overflows number count e = hears number e && option_map_or (λ a. not (nat_lt (a.count + count) (2 ^ 64))) e.active false

-- Is the deadline to which a callback's start with these flags sets the event again, or its order number, too great to
-- be kept
abbrev pub is_past_numbers : ℕ → ℕ → ℕ → Event → Bool
is_past_numbers time order flags e =
    option_map_or (λ t. not (nat_lt (next_deadline time flags t) (2 ^ 64) && nat_lt order (2 ^ 64))) (again e) false

-- does a callback's start set the event again
abbrev pub is_set_again : Event → Bool
is_set_again e = is_some (again e)
