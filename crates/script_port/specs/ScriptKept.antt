-- How the links of a script port keep what the script has yet to bring: the links to open, and the bytes of each end,
-- of which a line says no more than how many come in now.
use Rattle.std.specs.Prelude.{◌≡◌, ◌≢◌, ℕ, ◌-◌, ◌^◌, ◌==◌, length, take, drop, Bool, true, if◌then◌else◌, List, [], ◌∷◌, ◌++◌}
use Rattle.std.specs.Prelude.{slice_index_or, ◌<◌, Option, Some, None}
use Rattle.std.specs.List.{flat_map}
use Rattle.ev_types.specs.declared.side.SideId.{SideId}
use Rattle.ev_types.specs.Sides.{number}
use Rattle.ev_types.specs.declared.answer.WriteAnswer.{WriteAnswer}
use Rattle.ev_types.specs.declared.answer.WriteAnswer.TheVariants as write
use Rattle.ev_types.specs.declared.turn_line.TurnLine.{TurnLine}
use Rattle.ev_types.specs.declared.turn_line.TurnLine.TheVariants as line
use Rattle.script_port.specs.ScriptState.{EndState, EndKept, LinksKept}
use Rattle.script_port.specs.declared.kept_line.EndLine.{EndLine}
use Rattle.script_port.specs.declared.kept_line.EndLine.TheVariants as at
use Rattle.script_port.specs.declared.kept_line.KeptLine.{KeptLine}
use Rattle.script_port.specs.declared.kept_line.KeptLine.TheVariants as kept
use Rattle.script_port.specs.ScriptEnds.{allowed, decided, write_answer, after_write}
use Rattle.script_port.specs.ScriptLinks.{changed, at_end, new_ends, links_of}

-- One end

-- what a line makes of the end that it names; the bytes that come in are the next ones to come
abbrev pub state_after_line : Option ℕ → EndLine → List ℕ → EndState → EndState
state_after_line turn (at.Conn connected) to_come s = record s { decision = decided s.decision connected }
state_after_line turn (at.Pending count) to_come s = record s { pending = s.pending ++ take count to_come }
state_after_line turn at.Eof to_come s = record s { eof = true }
state_after_line turn at.ReadFail to_come s = record s { read_fails = true }
state_after_line turn (at.Take more) to_come s = record s { may_take = allowed s.may_take more }
state_after_line turn at.WriteFail to_come s = record s { write_fails = true }
state_after_line turn at.Spur to_come s = record s { spurred = turn }

-- the bytes that are still to come
abbrev pub left_after_line : EndLine → List ℕ → List ℕ
left_after_line (at.Pending count) to_come = drop count to_come
left_after_line x to_come = to_come

abbrev pub kept_after_line : Option ℕ → EndLine → EndKept → EndKept
kept_after_line turn x e = record { state = state_after_line turn x e.to_come e.state; to_come = left_after_line x e.to_come }

-- what a write did: want of memory, in place of taking bytes, changed nothing; memory holds what the end took
abbrev pub Wrote : EndKept → EndKept → List ℕ → WriteAnswer → Type 0
Wrote old new from write.NoMemory =
    (new ≡ old) × (write_answer old.state (length from) ≢ write.NotYet) × (write_answer old.state (length from) ≢ write.Failed)
Wrote old new from answer =
    (new ≡ record old { state = after_write old.state from }) × (answer ≡ write_answer old.state (length from)) × (length new.state.taken < 2 ^ 64 - 1)

-- All links

-- the bytes to come at the end with this number
abbrev pub kept_at : ℕ → List (List ℕ) → List ℕ
kept_at k to_come = slice_index_or to_come k []

-- what a line makes of the end that it names
abbrev pub line_at : SideId → EndLine → LinksKept → LinksKept
line_at e x l = record l {
  state = at_end e (state_after_line l.state.turn x (kept_at (number e) l.to_come)) l.state;
  to_come = changed (number e) (left_after_line x) l.to_come;
}

-- what a line makes of the links: it opens the next one, changes the end that it names, or lets the poll fail
abbrev pub links_after_line : KeptLine → LinksKept → LinksKept
links_after_line kept.NewLink l = record l {
  state = record l.state { waiting = l.state.waiting ++ take 1 l.to_open };
  to_open = drop 1 l.to_open;
}
links_after_line (kept.At side x) l = line_at side x l
links_after_line kept.PollFail l = record l { state = record l.state { poll_fails = true } }

abbrev pub links_after_lines : List KeptLine → LinksKept → LinksKept
links_after_lines [] l = l
links_after_lines (x ∷ lines) l = links_after_lines lines (links_after_line x l)

-- no bytes at the ends of so many links
abbrev pub no_bytes : List Bool → List (List ℕ)
no_bytes [] = []
no_bytes (wait ∷ waits) = [] ∷ [] ∷ no_bytes waits

-- more links to open, at whose ends no bytes come yet
abbrev pub with_links : List Bool → LinksKept → LinksKept
with_links waits l = record {
  state = record l.state { ends = l.state.ends ++ new_ends waits };
  to_open = l.to_open ++ waits;
  to_come = l.to_come ++ no_bytes waits;
}

-- the bytes of a line are to come behind those from before, at the end that it names
abbrev pub with_bytes : TurnLine → List (List ℕ) → List (List ℕ)
with_bytes (line.Pending side bytes) to_come = changed (number side) (λ before. before ++ bytes) to_come
with_bytes x to_come = to_come

abbrev pub with_all_bytes : List TurnLine → List (List ℕ) → List (List ℕ)
with_all_bytes [] to_come = to_come
with_all_bytes (x ∷ lines) to_come = with_all_bytes lines (with_bytes x to_come)

-- the bytes that lines bring in at the end with this number
abbrev pub line_bytes : ℕ → TurnLine → List ℕ
line_bytes k (line.Pending side bytes) = if number side == k then bytes else []
line_bytes k x = []

abbrev pub bytes_of : ℕ → List TurnLine → List ℕ
bytes_of k lines = flat_map (line_bytes k) lines

-- what is to open and to come is what these lines bring
pub record Brings (lines : List TurnLine) (l : LinksKept) : Type 0 where
  pub links : l.to_open ≡ links_of lines
  pub bytes : (k : ℕ) → k < length l.to_come → kept_at k l.to_come ≡ bytes_of k lines
  pub ends : length l.state.ends ≡ length l.to_come

-- the first link that waits was taken, if one does
abbrev pub TookWaiting : LinksKept → LinksKept → Option Bool → Type 0
TookWaiting old new None = (new ≡ old) × (old.state.waiting ≡ [])
TookWaiting old new (Some wait) =
    (new ≡ record old { state = record old.state { waiting = new.state.waiting } }) × (old.state.waiting ≡ wait ∷ new.state.waiting)
