-- The lines of a report, by what a relay counts of its links.
use Rattle.std.specs.Prelude.{ℕ, zero, suc, List, [], ◌∷◌, ◌++◌}
use Rattle.ev_types.specs.declared.status.LinkCount.{LinkCount}
use Rattle.relay_state.specs.State.{State}
use Rattle.relay_state.specs.Counting.{link_count}

-- the lines of the first links
abbrev pub lines_below : State → ℕ → List LinkCount
lines_below s zero = []
lines_below s (suc n) = lines_below s n ++ link_count s n ∷ []
