-- The sides of links as numbers. What a side does stands elsewhere.
use Rattle.std.specs.Prelude.{ℕ, ◌+◌, ◌*◌, Bool, true, false, ◌==◌, ◌&&◌}
use Rattle.ev_types.specs.declared.side.Side.{Side}
use Rattle.ev_types.specs.declared.side.Side.TheVariants.{In, Out}
use Rattle.ev_types.specs.declared.side.SideId.{SideId}

abbrev pub other : Side → Side
other In = Out
other Out = In

-- the other side of the same link
abbrev pub peer : SideId → SideId
peer s = record { link = s.link; side = other s.side }

-- 0 for In, 1 for Out
abbrev pub half : Side → ℕ
half In = 0
half Out = 1

-- the place of a side among all sides: twice its link, and one more for Out
abbrev pub number : SideId → ℕ
number s = 2 * s.link + half s.side

abbrev pub same_side : Side → Side → Bool
same_side In In = true
same_side Out Out = true
same_side In Out = false
same_side Out In = false

-- do two names name one end
abbrev pub same_end : SideId → SideId → Bool
same_end a b = a.link == b.link && same_side a.side b.side
