-- Sides of links by their numbers: what code keeps by number, the relay's model keeps by side.
use Rattle.std.specs.Prelude.{ℕ, ◌*◌, ◌/◌, ◌==◌, if◌then◌else◌}
use Rattle.ev_types.specs.declared.side.Side.{Side}
use Rattle.ev_types.specs.declared.side.Side.TheVariants.{In, Out}
use Rattle.ev_types.specs.declared.side.SideId.{SideId}

-- an even number is that of an In, an odd one that of an Out
abbrev pub half_numbered : ℕ → Side
half_numbered n = if 2 * (n / 2) == n then In else Out

-- the side with a number
abbrev pub side_numbered : ℕ → SideId
side_numbered n = record { link = n / 2; side = half_numbered n }
