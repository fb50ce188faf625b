-- How many bytes the lines of a script bring in. At which end stands elsewhere.
use Rattle.std.specs.Prelude.{ℕ, List, length, sum_by}
use Rattle.ev_types.specs.declared.turn_line.TurnLine.{TurnLine}
use Rattle.ev_types.specs.declared.turn_line.TurnLine.TheVariants.{Pending}

-- how many bytes a line brings in
abbrev pub brought : TurnLine → ℕ
brought (Pending side bytes) = length bytes
brought _ = 0

-- how many bytes some lines bring in, at all ends together
abbrev pub all_brought : List TurnLine → ℕ
all_brought lines = sum_by brought lines
