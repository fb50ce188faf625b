-- What each line of a script's turns says of an end or a link.
use Rattle.std.specs.Prelude.{ℕ, Bool, true, false, ◌==◌, if◌then◌else◌, List, [], ◌∷◌, Some, None}
use Rattle.ev_types.specs.declared.side.SideId.{SideId}
use Rattle.ev_types.specs.declared.turn_line.TurnLine.{TurnLine}
use Rattle.ev_types.specs.declared.turn_line.TurnLine.TheVariants as line
use Rattle.ev_types.specs.Sides.{same_end}

-- What a line says of a link, in a list of at most one, or of an end.
abbrev pub links_by : TurnLine → List Bool
links_by (line.NewLink undecided) = undecided ∷ []
links_by _ = []

abbrev pub decides : ℕ → TurnLine → List Bool
decides link (line.Conn k connected) = if k == link then connected ∷ [] else []
decides link _ = []

abbrev pub brings : SideId → TurnLine → List ℕ
brings e (line.Pending side bytes) = if same_end side e then bytes else []
brings e _ = []

abbrev pub ends : SideId → TurnLine → Bool
ends e (line.Eof side) = same_end side e
ends e _ = false

abbrev pub fails_reads : SideId → TurnLine → Bool
fails_reads e (line.ReadFail side) = same_end side e
fails_reads e _ = false

abbrev pub allows : SideId → TurnLine → ℕ
allows e (line.Take side (Some more)) = if same_end side e then more else 0
allows e _ = 0

abbrev pub allows_all : SideId → TurnLine → Bool
allows_all e (line.Take side None) = same_end side e
allows_all e _ = false

abbrev pub fails_writes : SideId → TurnLine → Bool
fails_writes e (line.WriteFail side) = same_end side e
fails_writes e _ = false

abbrev pub marks_all : SideId → TurnLine → Bool
marks_all e (line.Spur side) = same_end side e
marks_all e _ = false

abbrev pub fails_poll : TurnLine → Bool
fails_poll line.PollFail = true
fails_poll _ = false
