-- What the lines of a script and the calls of a port make of the links of the script. A line or a call that names an
-- end of no such link changes nothing.
use Rattle.std.specs.Prelude.{◌≡◌, ◌≢◌, ℕ, ◌-◌, ◌^◌, ◌<◌, ◌==◌, length, zero, suc, Bool, true, false, ◌&&◌, ◌||◌, not, if◌then◌else◌}
use Rattle.std.specs.Prelude.{List, [], ◌∷◌, ◌++◌, Option, None, slice_get}
use Rattle.std.specs.Option.{option_map_or}
use Rattle.ev_types.specs.declared.side.SideId.{SideId}
use Rattle.ev_types.specs.declared.side.Side.TheVariants.{In, Out}
use Rattle.ev_types.specs.declared.answer.ConnAnswer.{ConnAnswer}
use Rattle.ev_types.specs.declared.answer.ConnAnswer.TheVariants as conn
use Rattle.ev_types.specs.declared.answer.ReadAnswer.{ReadAnswer}
use Rattle.ev_types.specs.declared.answer.ReadAnswer.TheVariants as read
use Rattle.ev_types.specs.declared.answer.WriteAnswer.{WriteAnswer}
use Rattle.ev_types.specs.declared.answer.WriteAnswer.TheVariants as write
use Rattle.ev_types.specs.Sides.{number}
use Rattle.ev_types.specs.declared.turn_line.TurnLine.{TurnLine}
use Rattle.ev_types.specs.declared.turn_line.TurnLine.TheVariants as line
use Rattle.ev_port.specs.declared.port.Accepted.{Accepted}
use Rattle.ev_port.specs.declared.port.Accepted.TheVariants as answer
use Rattle.ev_port.specs.declared.port.Want.{Want}
use Rattle.script_port.specs.ScriptState.{EndState, LinksState}
use Rattle.script_port.specs.ScriptEnds.{new_end, end_after_line, can_read, can_write, is_spurred, read_answer, write_answer, after_write}
use Rattle.script_port.specs.ScriptEnds.{conn_answer, accepted, wanted}

-- the list with the k-th of its elements changed, where it has one
abbrev pub changed : {S : Type 0} → ℕ → (S → S) → List S → List S
changed k f [] = []
changed zero f (s ∷ ss) = f s ∷ ss
changed (suc k) f (s ∷ ss) = s ∷ changed k f ss

abbrev pub end_of : LinksState → SideId → Option EndState
end_of l e = slice_get l.ends (number e)

abbrev pub at_end : SideId → (EndState → EndState) → LinksState → LinksState
at_end e f l = record l { ends = changed (number e) f l.ends }

-- In and Out of each link, undecided where its line says wait
abbrev pub new_ends : List Bool → List EndState
new_ends [] = []
new_ends (wait ∷ waits) = new_end false ∷ new_end wait ∷ new_ends waits

-- links of which none waits yet
abbrev pub new_links : List Bool → LinksState
new_links waits = record { waiting = []; ends = new_ends waits; turn = None; poll_fails = false; closing = false }

-- Lines

-- the links that lines open, each with whether its line says wait
abbrev pub links_of : List TurnLine → List Bool
links_of [] = []
links_of (line.NewLink wait ∷ lines) = wait ∷ links_of lines
links_of (x ∷ lines) = links_of lines

-- the Out end of a link
abbrev pub out_end : ℕ → SideId
out_end link = record { link = link; side = Out }

-- a link that is opened waits to be accepted
abbrev pub after_line : TurnLine → LinksState → LinksState
after_line (line.NewLink wait) l = record l { waiting = l.waiting ++ wait ∷ [] }
after_line line.PollFail l = record l { poll_fails = true }
after_line (line.Conn link connected) l = at_end (out_end link) (end_after_line l.turn (line.Conn link connected)) l
after_line (line.Pending side bytes) l = at_end side (end_after_line l.turn (line.Pending side bytes)) l
after_line (line.Eof side) l = at_end side (end_after_line l.turn (line.Eof side)) l
after_line (line.ReadFail side) l = at_end side (end_after_line l.turn (line.ReadFail side)) l
after_line (line.Take side more) l = at_end side (end_after_line l.turn (line.Take side more)) l
after_line (line.WriteFail side) l = at_end side (end_after_line l.turn (line.WriteFail side)) l
after_line (line.Spur side) l = at_end side (end_after_line l.turn (line.Spur side)) l

-- another turn runs, or none; what a line says of one turn alone is over
abbrev pub entered : Option ℕ → LinksState → LinksState
entered turn l = record l { turn = turn; poll_fails = false }

-- lines in their order
abbrev pub after_lines : List TurnLine → LinksState → LinksState
after_lines [] l = l
after_lines (x ∷ lines) l = after_lines lines (after_line x l)

-- Calls

abbrev pub can_read_at : LinksState → SideId → Bool
can_read_at l e = option_map_or can_read (end_of l e) false

abbrev pub can_write_at : LinksState → SideId → Bool
can_write_at l e = option_map_or can_write (end_of l e) l.closing

abbrev pub is_spurred_at : LinksState → SideId → Bool
is_spurred_at l e = option_map_or (is_spurred l.turn) (end_of l e) false

-- a direction that is wanted is marked where it can be done, or where all is marked in this turn
abbrev pub marked : LinksState → Want → Want
marked l w = record w {
  can_read = w.read && (can_read_at l w.side || is_spurred_at l w.side);
  can_write = w.write && (can_write_at l w.side || is_spurred_at l w.side);
}

-- a poll that fails marks nothing
abbrev pub unmarked : Want → Want
unmarked w = record w { can_read = false; can_write = false }

-- the want as a poll leaves it
abbrev pub polled : LinksState → Want → Want
polled l w = if l.poll_fails then unmarked w else marked l w

-- a poll was given these wants, with their marks
abbrev pub after_wants : List Want → LinksState → LinksState
after_wants [] l = l
after_wants (w ∷ ws) l = after_wants ws (at_end w.side (wanted w) l)

-- the first link that waits is accepted, connected unless its line says wait
abbrev pub accept_answer : List Bool → Accepted
accept_answer [] = answer.NotYet
accept_answer (wait ∷ waiting) = answer.Link (not wait)

-- its ends get this link's number
abbrev pub accept_first : ℕ → List Bool → LinksState → LinksState
accept_first link [] l = l
accept_first link (wait ∷ waiting) l =
    at_end (record { link = link; side = Out }) (accepted (not wait)) (at_end (record { link = link; side = In }) (accepted true) (record l { waiting = waiting }))

abbrev pub read_answer_at : LinksState → SideId → ℕ → ReadAnswer
read_answer_at l e room = option_map_or (λ s. read_answer s room) (end_of l e) read.NotYet

abbrev pub pending_at : LinksState → SideId → List ℕ
pending_at l e = option_map_or (λ s. s.pending) (end_of l e) []

-- what a write is answered at an end of no link of the script: only in closing turns all is taken, as at every end
abbrev pub beyond_answer : Bool → ℕ → WriteAnswer
beyond_answer closing offer = if closing && not (offer == 0) then write.Took offer else write.NotYet

abbrev pub write_answer_at : LinksState → SideId → ℕ → WriteAnswer
write_answer_at l e offer = option_map_or (λ s. write_answer s offer) (end_of l e) (beyond_answer l.closing offer)

-- the bytes that the end took
abbrev pub taken_at : LinksState → SideId → List ℕ
taken_at l e = option_map_or (λ s. s.taken) (end_of l e) []

-- what a write did: want of memory, in place of taking bytes, changed nothing; memory holds what the end took
abbrev pub WroteAt : LinksState → LinksState → SideId → List ℕ → WriteAnswer → Type 0
WroteAt old new e from write.NoMemory =
    (new ≡ old) × (write_answer_at old e (length from) ≢ write.NotYet) × (write_answer_at old e (length from) ≢ write.Failed)
WroteAt old new e from answer =
    (new ≡ at_end e (λ s. after_write s from) old) × (answer ≡ write_answer_at old e (length from)) × (length (taken_at new e) < 2 ^ 64 - 1)

abbrev pub conn_answer_at : LinksState → SideId → ConnAnswer
conn_answer_at l e = option_map_or conn_answer (end_of l e) conn.Pending
