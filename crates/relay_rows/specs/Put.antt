-- The state after an entry, where the entry may be put next. The cases are those of the relation on traces, each with
-- its condition as a test.
use Rattle.std.specs.Prelude.{ℕ, ◌+◌, Bool, true, false, ◌==◌, ◌&&◌, ◌||◌, not, nat_lt, nat_le, if◌then◌else◌, List, [], ◌∷◌, ◌++◌, length}
use Rattle.std.specs.Prelude.{Option, Some, None, option_map}
use Rattle.ev_types.specs.declared.answer.ReadAnswer.{ReadAnswer}
use Rattle.ev_types.specs.declared.answer.ReadAnswer.TheVariants as read
use Rattle.ev_types.specs.declared.answer.WriteAnswer.{WriteAnswer}
use Rattle.ev_types.specs.declared.answer.WriteAnswer.TheVariants as write
use Rattle.ev_types.specs.declared.answer.AskAnswer.{AskAnswer}
use Rattle.ev_types.specs.declared.answer.AskAnswer.TheVariants as ask
use Rattle.ev_types.specs.declared.act.Act.{Act}
use Rattle.ev_types.specs.declared.why.Cause.TheVariants as cause
use Rattle.ev_types.specs.declared.entry.Entry.{Entry}
use Rattle.ev_types.specs.declared.entry.Entry.TheVariants as entry
use Rattle.ev_types.specs.Sides.{same_end}
use Rattle.ev_types.specs.Trace.{Trace}
use Rattle.relay_model.specs.Settings.{Settings}
use Rattle.relay_model.specs.Plain.{Plain, with_link, is_live}
use Rattle.relay_model.specs.Past.{Past, past}
use Rattle.relay_model.specs.Rooms.{Want, wanted}
use Rattle.relay_model.specs.Asks.{most_asks, refusal, done, may_lack}
use Rattle.relay_model.specs.Moments.{poll_timeout, time_passed}
use Rattle.relay_model.specs.Serve.{Call, call_for, marks_left, after_conn, after_read, after_write}
use Rattle.relay_model.specs.Close.{freed_entry, closing_entry, closed_by, steps_left}
use Rattle.relay_model.specs.Stages.{Halt, Stage, Between, Polling, Wanting, Marking, Accepting, Serving, Dispatching, Firing, Freeing}
use Rattle.relay_model.specs.Stages.{Closing, Over, State, at, begun, after_ask}
use Rattle.ev_types.specs.Times.{latest}
use Rattle.relay_model.specs.Turn.{most_opened, turned_to, after_reading}
use Rattle.relay_rows.specs.Same.{is_empty, same_flag, same_number, same_why, same_answer, same_end_of}

-- a value where a test holds, or none
abbrev pub provided : {X : Type 0} → Bool → X → Option X
provided test x = if test then Some x else None

abbrev pub asks_connect : Call → Bool
asks_connect Call.AskConnect = true
asks_connect _ = false

abbrev pub asks_read : ℕ → Call → Bool
asks_read room (Call.AskRead n) = n == room
asks_read room _ = false

abbrev pub asks_write : ℕ → Call → Bool
asks_write offered (Call.AskWrite n) = n == offered
asks_write offered _ = false

abbrev pub asks_nothing : Call → Bool
asks_nothing Call.Nothing = true
asks_nothing _ = false

abbrev pub is_count_of : ℕ → ℕ → List ℕ → Bool
is_count_of n room bytes = length bytes == n && nat_le 1 n && nat_le n room

-- Do these bytes stand beside the answer of a read with that room, or of a write that was offered so many?
abbrev pub carries_got : ReadAnswer → ℕ → List ℕ → Bool
carries_got (read.Got n) room bytes = is_count_of n room bytes
carries_got read.Ended room bytes = is_empty bytes
carries_got read.NotYet room bytes = is_empty bytes
carries_got read.Failed room bytes = is_empty bytes

abbrev pub carries_took : WriteAnswer → ℕ → List ℕ → Bool
carries_took (write.Took n) offered bytes = is_count_of n offered bytes
carries_took write.NotYet offered bytes = is_empty bytes
carries_took write.Failed offered bytes = is_empty bytes
carries_took write.NoMemory offered bytes = false

-- is that a part of what was wanted, and not nothing
abbrev pub is_part_of : Bool → Bool → Want → Bool
is_part_of read write w = (not read || w.read) && (not write || w.write) && (read || write)

-- the state after an ask with this answer, its first refusal given
abbrev pub answered : Option AskAnswer → Settings → Past → Plain → Act → AskAnswer → Option Plain
answered (Some refused) g p s a answer = provided (same_answer answer refused) s
answered None g p s a ask.Ok = Some (done g p s a)
answered None g p s a ask.Memory = provided (may_lack a) s
answered None g p s a _ = None

-- The state after an entry with these bytes beside it, or none where it may not be put.
abbrev pub put : Settings → Trace → Stage → Plain → Entry → List ℕ → Option State
put g t Between s (entry.Turn ms) bytes =
    provided (nat_le s.time ms && nat_le ms latest && is_empty bytes)
    (at Polling (time_passed g (past g (t ++ (entry.Turn ms, []) ∷ [])) (turned_to ms s)))
put g t Polling s (entry.Poll timeout) bytes =
    provided (same_number timeout (poll_timeout g (past g t) s) && is_empty bytes) (at (Wanting (wanted g (past g t) s)) s)
put g t (Wanting (w ∷ ws)) s (entry.Want side read write) bytes =
    provided (same_end w.side side && same_flag w.read read && same_flag w.write write && is_empty bytes) (at (Wanting ws) s)
put g t (Wanting []) s entry.PollFailed bytes = provided (is_empty bytes) (at (Over Halt.PollFailed) s)
put g t (Marking (w ∷ ws) marks) s (entry.Ready side read write) bytes =
    provided (same_end side w.side && is_part_of read write w && is_empty bytes)
    (at (Marking ws (marks ++ record { side = side; read = read; write = write } ∷ [])) s)
put g t (Accepting n marks) s (entry.Opened link connected) bytes =
    provided (link == s.opened && nat_lt n most_opened && nat_lt link g.links && is_empty bytes)
    (at (Accepting (n + 1) marks) (with_link g connected s))
put g t (Serving (m ∷ ms)) s (entry.Conn side answer) bytes =
    provided (same_end side m.side && asks_connect (call_for g (past g t) s m) && is_empty bytes)
    (at (Serving (marks_left s m ms)) (after_conn g side answer s))
put g t (Serving (m ∷ ms)) s (entry.Read side room answer) bytes =
    provided (same_end side m.side && asks_read room (call_for g (past g t) s m) && carries_got answer room bytes)
    (at (after_reading side answer (marks_left s m ms)) (after_read g side answer s))
put g t (Serving (m ∷ ms)) s (entry.Write side offered answer) bytes =
    provided (same_end side m.side && asks_write offered (call_for g (past g t) s m) && carries_took answer offered bytes)
    (at (Serving (marks_left s m ms)) (after_write g (past g t) side answer s))
put g t (Dispatching (r ∷ rs)) s (entry.Fired side y) bytes =
    provided (same_end r.0 side && same_why r.1 y && is_live s side && is_empty bytes) (at (Firing (begun side) rs) s)
put g t (Firing x rs) s (entry.Asked side a answer) bytes =
    if same_end side x.side && nat_lt x.asks most_asks && is_empty bytes
    then option_map (at (after_ask (record x { asks = x.asks + 1 }) rs a answer)) (answered (refusal g s a) g (past g t) s a answer)
    else None
put g t (Freeing gone x rs) s e bytes = provided (same_end_of e (freed_entry s gone cause.Hook) && is_empty bytes) (at (Firing x rs) s)
put g t (Closing (c ∷ cs)) s e bytes =
    elim (closing_entry g (past g t) s c) [
      | Some due ↦ provided (same_end_of due e && is_empty bytes) (at (Closing (steps_left c cs)) (closed_by c s))
      | None ↦ None
    ]
put g t _ s e bytes = None
