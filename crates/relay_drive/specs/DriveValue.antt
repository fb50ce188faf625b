-- What contracts see of a drive.
use Rattle.std.specs.Prelude.{ℕ, ◌^◌, Bool, ◌||◌, nat_le, List, Option, Some, None, Result, Ok}
use Rattle.ev_types.specs.declared.settings.Settings.{Settings}
use Rattle.ev_types.specs.declared.side.SideId.{SideId}
use Rattle.relay_state.specs.State.{State, new_state}
use Rattle.relay_state.specs.Counting.{is_spent}
use Rattle.relay_core.specs.GivenGroups.{settings_given}
use Rattle.relay_core.specs.declared.rate_groups.RateGroups.{RateGroups}
use Rattle.relay_drive.specs.declared.fault.DriveFault.{DriveFault}
use Rattle.relay_drive.specs.declared.fault.TurnEnd.{TurnEnd}
use Rattle.relay_drive.specs.declared.fault.TurnEnd.TheVariants as end

-- the relay's state, how many entries were put, and the answer that is kept for every later turn
pub record DriveValue : Type 0 where
  pub state : State
  pub entries : ℕ
  pub kept : Option (Result TurnEnd DriveFault)

-- with these groups, and hooks for these sides
abbrev pub new_drive : Settings → RateGroups → List SideId → DriveValue
new_drive settings given hooks = record { state = new_state (settings_given settings given hooks); entries = 0; kept = None }

-- a count of the relay, or the number of entries, has come to 2^62
abbrev pub is_worn : DriveValue → Bool
is_worn d = nat_le (2 ^ 62) d.entries || is_spent d.state

-- what is kept of a turn's answer: that a hook stopped the run, or a refusal
abbrev pub kept_of : Result TurnEnd DriveFault → Option (Result TurnEnd DriveFault)
kept_of (Ok end.Went) = None
kept_of other = Some other
