-- How the code keeps the timers of sides.
use Rattle.std.specs.Prelude.{◌≡◌, ℕ, ◌≤◌, ◌<◌, ◌^◌, nat_eq, false, List, [], ◌∷◌, Some}
use Rattle.std.specs.List.{AllByRecursion}
use Rattle.std.specs.Map.{lookup}
use Rattle.min_timer.specs.declared.key.TimerKey.{TimerKey}
use Rattle.min_timer.specs.declared.timer.Timer as by_number
use Rattle.relay_model.specs.Plain.{Timer}
use Rattle.relay_waits.specs.TimerSides.{timers_of}
use Rattle.relay_waits.specs.TimerLaws.{DeadlinesRise}
use Rattle.relay_waits.specs.declared.side_timers.SideTimers.TheInside as timers

abbrev pub side_timers : timers.Inside → List Timer
side_timers t = timers_of t.timers.pending

-- the timer's key is the number of a side, and its handle is the one that is kept for it
pub record IsTimer (handles : List (ℕ × TimerKey)) (t : by_number.Timer) : Type 0 where
  pub side : t.key < 2 ^ 33
  pub handle : lookup (nat_eq t.key) handles ≡ Some t.handle

-- no other timer has this key
abbrev pub NoneHas : ℕ → List by_number.Timer → Type 0
NoneHas n ts = AllByRecursion (λ (t : by_number.Timer). nat_eq n t.key ≡ false) ts

-- no two timers have one key
abbrev pub OneEach : List by_number.Timer → Type 0
OneEach [] = Unit {0}
OneEach (t ∷ ts) = NoneHas t.key ts × OneEach ts

-- The deadlines rise, and a side has one timer. The handles that are kept were given out, each for one key alone.
pub record AreTimers (ts : List by_number.Timer) (last : ℕ) (handles : List (ℕ × TimerKey)) : Type 0 where
  pub rise : DeadlinesRise ts
  pub each : AllByRecursion (IsTimer handles) ts
  pub one : OneEach ts
  pub given : (n : ℕ) (h : TimerKey) → lookup (nat_eq n) handles ≡ Some h → h.stamp ≤ last
  pub apart : (m n : ℕ) (g h : TimerKey) → lookup (nat_eq m) handles ≡ Some g → lookup (nat_eq n) handles ≡ Some h →
      g.stamp ≡ h.stamp → m ≡ n

abbrev pub KeepsTimers : timers.Inside → Type 0
KeepsTimers t = AreTimers t.timers.pending t.timers.last t.handles.entries
