-- Where a script port stands in the running turn: what lines say of one turn alone.
use Rattle.std.specs.Prelude.{◌≡◌, ℕ, ◌<◌, List, Some}
use Rattle.std.specs.List.{list_any}
use Rattle.ev_types.specs.declared.side.SideId.{SideId}
use Rattle.ev_types.specs.declared.turn_line.TurnLine.{TurnLine}
use Rattle.relay_model.specs.Lines.{marks_all, fails_poll}
use Rattle.script_port.specs.ScriptState.{EndState, LinksState}
use Rattle.script_port.specs.ScriptEnds.{is_spurred}
use Rattle.script_port.specs.ScriptLinks.{end_of}

-- Of so many turns that began the running one has these lines: the poll fails where one says so, and all that is wanted of an
-- end is marked where one says so. What earlier turns said of that is over.
pub record RunsTurn (now : List TurnLine) (begun : ℕ) (l : LinksState) : Type 0 where
  pub poll : l.poll_fails ≡ list_any fails_poll now
  pub spurs : (e : SideId) (s : EndState) → end_of l e ≡ Some s → is_spurred l.turn s ≡ list_any (marks_all e) now
  pub earlier : (e : SideId) (s : EndState) → end_of l e ≡ Some s → (turn : ℕ) → s.spurred ≡ Some turn → turn < begun
