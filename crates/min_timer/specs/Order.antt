-- What the timers keep: their order, their places in a heap, their slots.
use Rattle.std.specs.Prelude.{◌≡◌, ◌≢◌, ℕ, ◌-◌, ◌/◌, ◌<◌, ◌==◌, ◌&&◌, ◌||◌, Bool, true, false, nat_lt, if◌then◌else◌, List, [], ◌∷◌, length}
use Rattle.std.specs.Prelude.{get_or, Some}
use Rattle.std.specs.List.{AllPairs}
use Rattle.slab.specs.Slab.{Slab, get, slab_len}
use Rattle.min_timer.specs.declared.timer.Timer.{Timer}

-- the first timer comes due before the second: its deadline is less, or the deadlines are equal and its stamp is less
abbrev pub is_earlier : Timer → Timer → Bool
is_earlier first second =
    nat_lt first.deadline second.deadline || (first.deadline == second.deadline && nat_lt first.handle.stamp second.handle.stamp)

abbrev pub IsEarlier : Timer → Timer → Type 0
IsEarlier first second = is_earlier first second ≡ true

-- the timer stands before the first of these that comes due later than it
abbrev pub put_in_order : Timer → List Timer → List Timer
put_in_order timer [] = timer ∷ []
put_in_order timer (first ∷ rest) = if is_earlier timer first then timer ∷ first ∷ rest else first ∷ put_in_order timer rest

-- the timers in the order in which they come due
abbrev pub in_order : List Timer → List Timer
in_order [] = []
in_order (timer ∷ rest) = put_in_order timer (in_order rest)

-- the place in a heap that is above this one: 0 is the top, and below a place are the four from its fourfold and one on
abbrev pub above : ℕ → ℕ
above at = (at - 1) / 4

-- the timer at the place does not come due before the one above it
abbrev pub IsUnder : List Timer → ℕ → Type 0
IsUnder timers at = (d : Timer) → 0 < at → at < length timers → is_earlier (get_or timers at d) (get_or timers (above at) d) ≡ false

-- no timer comes due before the one above it
abbrev pub IsHeap : List Timer → Type 0
IsHeap timers = (at : ℕ) → IsUnder timers at

-- the timers below the place do not come due before the one above the place
abbrev pub IsOver : List Timer → ℕ → Type 0
IsOver timers at =
    (k : ℕ) (d : Timer) → 0 < at → 0 < k → k < length timers → above k ≡ at →
    is_earlier (get_or timers k d) (get_or timers (above at) d) ≡ false

-- a heap but for the timer at the place, which may come due before the one above it
pub record MayRise (timers : List Timer) (at : ℕ) : Type 0 where
  pub under : (k : ℕ) → k ≢ at → IsUnder timers k
  pub over : IsOver timers at

-- a heap but for the timer at the place, which may come due after one below it
pub record MaySink (timers : List Timer) (at : ℕ) : Type 0 where
  pub under : (k : ℕ) → above k ≢ at → IsUnder timers k
  pub over : IsOver timers at

-- a heap but for the timer at the place
pub record IsHeapBut (timers : List Timer) (at : ℕ) : Type 0 where
  pub under : (k : ℕ) → k ≢ at → above k ≢ at → IsUnder timers k
  pub over : IsOver timers at

-- no two timers have the same stamp
abbrev pub HaveOwnStamps : List Timer → Type 0
HaveOwnStamps timers = AllPairs (λ first second. first.handle.stamp ≢ second.handle.stamp) timers

-- the slot of each timer holds its place
abbrev pub SlotsHoldPlaces : List Timer → Slab ℕ → Type 0
SlotsHoldPlaces timers places = (at : ℕ) (d : Timer) → at < length timers → get places (get_or timers at d).handle.slot ≡ Some at

-- the timers are a heap, each is in its slot, no other slot is in use, and no two have the same stamp
pub record IsKept (timers : List Timer) (places : Slab ℕ) : Type 0 where
  pub heap : IsHeap timers
  pub seated : SlotsHoldPlaces timers places
  pub slot_count : slab_len places ≡ length timers
  pub own_stamps : HaveOwnStamps timers
