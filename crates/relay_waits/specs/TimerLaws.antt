-- The timers that wait by number are those that the relay's model has by side, call by call.
use Rattle.std.specs.Prelude.{◌≡◌, ℕ, ◌≤◌, nat_eq, nat_le, nat_lt, false, if◌then◌else◌, List, [], ◌∷◌, map, filter, None, All}
use Rattle.std.specs.List.{AllByRecursion}
use Rattle.ev_types.specs.declared.side.SideId.{SideId}
use Rattle.ev_types.specs.Sides.{number}
use Rattle.min_timer.specs.declared.key.TimerKey.{TimerKey}
use Rattle.min_timer.specs.declared.timer.Timer as by_number
use Rattle.min_timer.specs.Queue.{is_timer_of, without, with_timer, first_deadline, first_due, after_due, due_keys}
use Rattle.relay_model.specs.Plain.{placed, without_timer}
use Rattle.relay_model.specs.Moments.{earliest}
use Rattle.relay_waits.specs.Numbered.{side_numbered}
use Rattle.relay_waits.specs.TimerSides.{timer_of_side, timers_of}

-- a timer that is added comes to stand where the model places it
abbrev pub TimersArePlaced : Type 0
TimersArePlaced = (t : by_number.Timer) (ts : List by_number.Timer) → timers_of (with_timer t ts) ≡ placed (timer_of_side t) (timers_of ts)

-- the handle is that of the side's timer, and of no other
abbrev pub IsHandleOf : TimerKey → SideId → List by_number.Timer → Type 0
IsHandleOf handle e ts = All (λ t. is_timer_of handle t ≡ nat_eq (number e) t.key) ts

-- no timer of the side waits
abbrev pub HasNone : SideId → List by_number.Timer → Type 0
HasNone e ts = All (λ t. nat_eq (number e) t.key ≡ false) ts

-- cancelling the timer of a side's handle takes the side's timer away; where none waits there is nothing to take away
pub record TimersAreCancelled : Type 0 where
  pub one : (handle : TimerKey) (e : SideId) (ts : List by_number.Timer) → IsHandleOf handle e ts →
      timers_of (without handle ts) ≡ without_timer e (timers_of ts)
  pub none : (e : SideId) (ts : List by_number.Timer) → HasNone e ts → without_timer e (timers_of ts) ≡ timers_of ts

-- the deadlines do not fall
abbrev pub DeadlinesRise : List by_number.Timer → Type 0
DeadlinesRise [] = Unit {0}
DeadlinesRise (t ∷ ts) = AllByRecursion (λ (u : by_number.Timer). t.deadline ≤ u.deadline) ts × DeadlinesRise ts

-- the timers once all that are due were taken, one by one
abbrev pub after_all_due : ℕ → List by_number.Timer → List by_number.Timer
after_all_due now [] = []
after_all_due now (t ∷ ts) = if nat_le t.deadline now then after_all_due now ts else t ∷ ts

-- Taking the due timers one by one takes the model's due timers in their order, and leaves the others.
pub record DueTimersAreTaken (now : ℕ) (ts : List by_number.Timer) : Type 0 where
  pub taken : map side_numbered (due_keys now ts) ≡ map (λ x. x.side) (filter (λ x. nat_le x.deadline now) (timers_of ts))
  pub left : timers_of (after_all_due now ts) ≡ filter (λ x. nat_lt now x.deadline) (timers_of ts)
  pub over : first_due now ts ≡ None → after_all_due now ts ≡ ts
  pub next : after_all_due now (after_due now ts) ≡ after_all_due now ts

abbrev pub DueAreTheModels : Type 0
DueAreTheModels = (now : ℕ) (ts : List by_number.Timer) → DeadlinesRise ts → DueTimersAreTaken now ts

-- No call makes a deadline fall below one before it.
pub record RisingStays : Type 0 where
  pub placed : (t : by_number.Timer) (ts : List by_number.Timer) → DeadlinesRise ts → DeadlinesRise (with_timer t ts)
  pub cancelled : (handle : TimerKey) (ts : List by_number.Timer) → DeadlinesRise ts → DeadlinesRise (without handle ts)
  pub taken : (now : ℕ) (ts : List by_number.Timer) → DeadlinesRise ts → DeadlinesRise (after_due now ts)

-- the deadline of the first timer is the earliest of the model's
abbrev pub FirstIsEarliest : Type 0
FirstIsEarliest = (ts : List by_number.Timer) → DeadlinesRise ts → first_deadline ts ≡ earliest (map (λ x. x.deadline) (timers_of ts))
