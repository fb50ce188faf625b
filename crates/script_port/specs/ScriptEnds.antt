-- What the lines of a script and the calls of a port make of one end. What is counted of the calls stands elsewhere.
use Rattle.std.specs.Prelude.{ℕ, ◌-◌, ◌==◌, min, length, take, drop, Bool, true, false, ◌&&◌, ◌||◌, not, if◌then◌else◌, List, [], ◌++◌}
use Rattle.std.specs.Prelude.{Option, Some, None, is_some}
use Rattle.ev_types.specs.declared.answer.ConnAnswer.{ConnAnswer}
use Rattle.ev_types.specs.declared.answer.ConnAnswer.TheVariants as conn
use Rattle.ev_types.specs.declared.answer.ReadAnswer.{ReadAnswer}
use Rattle.ev_types.specs.declared.answer.ReadAnswer.TheVariants as read
use Rattle.ev_types.specs.declared.answer.WriteAnswer.{WriteAnswer}
use Rattle.ev_types.specs.declared.answer.WriteAnswer.TheVariants as write
use Rattle.ev_types.specs.declared.turn_line.TurnLine.{TurnLine}
use Rattle.ev_types.specs.declared.turn_line.TurnLine.TheVariants as line
use Rattle.relay_model.specs.Scripted.{decided_answer}
use Rattle.ev_port.specs.declared.port.Want.{Want}
use Rattle.ev_port.specs.Counting.{counted}
use Rattle.script_port.specs.ScriptState.{EndState}
use Rattle.ev_port.specs.Ends.{is_failed_conn, is_failed_read, is_failed_write}
use Rattle.script_port.specs.EndTallies.{no_calls, with_read, with_write, with_check, with_fault, with_want}

-- an end before any line and any call
abbrev pub new_end : Bool → EndState
new_end wait = record {
  given = [];
  pending = [];
  eof = false;
  read_fails = false;
  may_take = Some 0;
  write_fails = false;
  wait = wait;
  decision = None;
  spurred = None;
  taken = [];
  tally = no_calls;
}

-- Lines

-- so many bytes more may be taken, or any number; a number stops at the end of a u64
abbrev pub allowed : Option ℕ → Option ℕ → Option ℕ
allowed None more = None
allowed (Some n) None = None
allowed (Some n) (Some more) = Some (counted n more)

-- the first decision stands
abbrev pub decided : Option Bool → Bool → Option Bool
decided None connected = Some connected
decided (Some first) connected = Some first

-- what a line makes of the end that it names, in this turn
abbrev pub end_after_line : Option ℕ → TurnLine → EndState → EndState
end_after_line turn (line.Conn link connected) s = record s { decision = decided s.decision connected }
end_after_line turn (line.Pending side bytes) s = record s { pending = s.pending ++ bytes }
end_after_line turn (line.Eof side) s = record s { eof = true }
end_after_line turn (line.ReadFail side) s = record s { read_fails = true }
end_after_line turn (line.Take side more) s = record s { may_take = allowed s.may_take more }
end_after_line turn (line.WriteFail side) s = record s { write_fails = true }
end_after_line turn (line.Spur side) s = record s { spurred = turn }
end_after_line turn (line.NewLink wait) s = s
end_after_line turn line.PollFail s = s

-- Calls

-- reading is marked where bytes are pending, or where reads fail or the end stands behind them
abbrev pub can_read : EndState → Bool
can_read s = not (length s.pending == 0) || s.read_fails || s.eof

-- how many of so many bytes the end takes
abbrev pub taken_of : Option ℕ → ℕ → ℕ
taken_of None n = n
taken_of (Some most) n = min n most

-- Writing is marked where a byte may be taken or writes fail. An end that is undecided at first, and was never answered to be
-- connected, is marked once it is decided.
abbrev pub can_write : EndState → Bool
can_write s =
    if s.wait && not s.tally.connected then is_some s.decision else not (taken_of s.may_take 1 == 0) || s.write_fails

-- do these two tell of one turn
abbrev pub same_turn : Option ℕ → Option ℕ → Bool
same_turn (Some a) (Some b) = a == b
same_turn _ _ = false

-- in this turn the poll marks all that is wanted of it
abbrev pub is_spurred : Option ℕ → EndState → Bool
is_spurred turn s = same_turn turn s.spurred

-- what is wanted of it and can be done is marked, or, where all is marked in this turn, what is wanted
abbrev pub end_marked : Option ℕ → EndState → Want → Want
end_marked turn s w = record w {
  can_read = w.read && (can_read s || is_spurred turn s);
  can_write = w.write && (can_write s || is_spurred turn s);
}

-- the least of the room and the pending bytes; with none pending a failure, or else the end, where it stands
abbrev pub read_answer : EndState → ℕ → ReadAnswer
read_answer s room =
    if length s.pending == 0 then (if s.read_fails then read.Failed else (if s.eof then read.Ended else read.NotYet))
    else read.Got (min (length s.pending) room)

abbrev pub after_read : EndState → ℕ → EndState
after_read s room = record s {
  given = s.given ++ take room s.pending;
  pending = drop room s.pending;
  tally = with_fault (is_failed_read (read_answer s room)) (with_read (read_answer s room) room s.tally);
}

-- the least of the length and what may be taken; where that is nothing, a failure where it stands
abbrev pub write_answer : EndState → ℕ → WriteAnswer
write_answer s offer =
    if taken_of s.may_take offer == 0 then (if s.write_fails then write.Failed else write.NotYet)
    else write.Took (taken_of s.may_take offer)

-- what may be taken after so many bytes were offered
abbrev pub left_to_take : Option ℕ → ℕ → Option ℕ
left_to_take None offer = None
left_to_take (Some most) offer = Some (most - offer)

abbrev pub after_write : EndState → List ℕ → EndState
after_write s from = record s {
  taken = s.taken ++ take (taken_of s.may_take (length from)) from;
  may_take = left_to_take s.may_take (length from);
  tally = with_fault (is_failed_write (write_answer s (length from))) (with_write (length from) s.tally);
}

-- an end that is undecided at first is what the script decides; every other is connected where its accept made it so
abbrev pub conn_answer : EndState → ConnAnswer
conn_answer s =
    if s.wait then decided_answer s.decision else (if s.tally.made_connected then conn.Connected else conn.Pending)

abbrev pub after_check : EndState → EndState
after_check s = record s { tally = with_fault (is_failed_conn (conn_answer s)) (with_check (conn_answer s) s.tally) }

-- an accept made the end connected, or not
abbrev pub accepted : Bool → EndState → EndState
accepted connected s = record s { tally = record s.tally { made_connected = s.tally.made_connected || connected } }

abbrev pub after_close_write : EndState → EndState
after_close_write s = record s { tally = record s.tally { write_ended = true } }

abbrev pub after_close : EndState → EndState
after_close s = record s { tally = record s.tally { closed = true } }

-- a poll was given this want, and left these marks
abbrev pub wanted : Want → EndState → EndState
wanted w s = record s { tally = with_want w s.tally }
