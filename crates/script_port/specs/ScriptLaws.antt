-- Laws of a script port's state, in its own words.
use Rattle.std.specs.Prelude.{◌≡◌, ℕ, List, ◌++◌, Some, IsSomeAnd}
use Rattle.ev_types.specs.declared.side.SideId.{SideId}
use Rattle.ev_types.specs.Sides.{number}
use Rattle.ev_types.specs.declared.turn_line.TurnLine.{TurnLine}
use Rattle.script_port.specs.ScriptState.{EndState, LinksState}
use Rattle.script_port.specs.ScriptEnds.{after_read}
use Rattle.script_port.specs.ScriptLinks.{end_of, after_lines}
use Rattle.script_port.specs.ScriptKept.{bytes_of}

-- lines put what they bring in at an end behind what is pending there, and change neither what it gave nor what it took
abbrev pub LinesBringBytes : Type 0
LinesBringBytes =
    (lines : List TurnLine) (l : LinksState) (e : SideId) (before : EndState) → end_of l e ≡ Some before →
    IsSomeAnd (end_of (after_lines lines l) e) (λ after. (after.pending ≡ before.pending ++ bytes_of (number e) lines) × (after.given ≡ before.given) × (after.taken ≡ before.taken))

-- what a read gives it takes from the front of what is pending
abbrev pub ReadsLoseNothing : Type 0
ReadsLoseNothing = (s : EndState) (room : ℕ) → (after_read s room).given ++ (after_read s room).pending ≡ s.given ++ s.pending
