-- How far a turn can go: what bounds what is read, the number of turns and the number of entries, and by how much a turn may raise
-- the bound.
use Rattle.std.specs.Prelude.{◌≡◌, ℕ, ◌+◌, ◌*◌, ◌^◌, ◌<◌, ◌≤◌, false, List, ◌++◌, length, slice_index_or}
use Rattle.ev_types.specs.Trace.{Trace}
use Rattle.ev_types.specs.declared.side.SideId.{SideId}
use Rattle.ev_port.specs.Counting.{counted}
use Rattle.ev_types.specs.declared.settings.Settings.{Settings}
use Rattle.relay_core.specs.declared.rate_groups.RateGroups.{RateGroups}
use Rattle.relay_state.specs.State.{State, no_lane}
use Rattle.relay_drive.specs.DriveValue.{DriveValue, new_drive, is_worn}
use Rattle.relay_drive.specs.Phases.{Turns}
use Rattle.relay_drive.specs.DriveStands.{DriveStands, StandsBetween}

-- No more than so many links are allowed or opened, no more than so many sides have a hook, at most n turns were begun, and at most n
-- bytes were read at each side.
pub record StateIsWithin (n links hooks : ℕ) (s : State) : Type 0 where
  pub allowed : s.settings.links ≤ links
  pub opened : s.plain.opened ≤ links
  pub hooked : length s.settings.hooks ≤ hooks
  pub turns : s.plain.turn ≤ n
  pub reads : (i : ℕ) → (slice_index_or s.lanes i no_lane).read ≤ n

-- And at most n entries were put.
pub record IsWithin (n links hooks : ℕ) (d : DriveValue) : Type 0 where
  pub state : StateIsWithin n links hooks d.state
  pub entries : counted d.entries 0 ≤ n

-- By how much a turn raises the bound, with so many links and hooks: a link has two sides, and a side is read at most once; a hook is
-- called for at most five reasons, and asks at most 256 times for each, with two entries.
abbrev pub most_of_turn : ℕ → ℕ → ℕ
most_of_turn links hooks = 100 + 33000 * links + 2565 * hooks

-- A new drive is within 0.
abbrev pub NewDriveIsWithin : Type 0
NewDriveIsWithin =
    (settings : Settings) (given : RateGroups) (hooks : List SideId) →
    IsWithin 0 settings.links (length hooks) (new_drive settings given hooks)

-- A turn that goes through its phases raises the bound by no more than that, and the settings stay.
abbrev pub TurnIsBounded : Type 0
TurnIsBounded =
    (n links hooks : ℕ) (old new : DriveValue) (t a : Trace) → IsWithin n links hooks old → Turns old.state a new.state →
    DriveStands t old → DriveStands (t ++ a) new →
    IsWithin (n + most_of_turn links hooks) links hooks new × (new.state.settings ≡ old.state.settings)

-- A drive within n that stands for a trace has not come too far for a turn, where four times n and three is below 2^62: no filter
-- makes more than twice what it uses, and one byte at its end.
abbrev pub WithinIsNotWorn : Type 0
WithinIsNotWorn =
    (n links hooks : ℕ) (d : DriveValue) (t : Trace) → IsWithin n links hooks d → StandsBetween t d.state → 4 * n + 3 < 2 ^ 62 →
    is_worn d ≡ false
