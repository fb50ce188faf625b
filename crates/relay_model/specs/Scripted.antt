-- What a port answers by a script, over two lists: the lines of the turns so far, and the trace so far. Behind the turns of
-- the script come closing turns, in which every end takes everything and is connected.
use Rattle.std.specs.Prelude.{ℕ, ◌+◌, ◌-◌, ◌*◌, min, Bool, true, false, ◌&&◌, ◌||◌, not, nat_lt, nat_le, if◌then◌else◌, List, [], ◌∷◌}
use Rattle.std.specs.Prelude.{length, take, drop, map, filter, sum_by, count_by, Option, Some, None, is_some, unwrap_or, slice_index_or}
use Rattle.std.specs.List.{flat_map, list_any, last_or}
use Rattle.ev_types.specs.declared.side.Side.{Side}
use Rattle.ev_types.specs.declared.side.Side.TheVariants.{In, Out}
use Rattle.ev_types.specs.declared.side.SideId.{SideId}
use Rattle.ev_types.specs.declared.answer.ConnAnswer.{ConnAnswer}
use Rattle.ev_types.specs.declared.answer.ConnAnswer.TheVariants as conn
use Rattle.ev_types.specs.declared.answer.ReadAnswer.{ReadAnswer}
use Rattle.ev_types.specs.declared.answer.ReadAnswer.TheVariants as read
use Rattle.ev_types.specs.declared.answer.WriteAnswer.{WriteAnswer}
use Rattle.ev_types.specs.declared.answer.WriteAnswer.TheVariants as write
use Rattle.ev_types.specs.Trace.{Trace}
use Rattle.relay_model.specs.Trace.{bytes_read, bytes_given}
use Rattle.relay_model.specs.Rooms.{Want, at_most}
use Rattle.relay_model.specs.RatesKept.{is_turn}
use Rattle.relay_model.specs.Totals.{opened, is_made_connected, is_connected}
use Rattle.ev_types.specs.declared.turn_line.TurnLine.{TurnLine}
use Rattle.relay_model.specs.Lines.{links_by, decides, brings, ends, fails_reads, allows, allows_all, fails_writes, marks_all, fails_poll}
use Rattle.ev_types.specs.ScriptTurn.{ScriptTurn}

-- In is never undecided.
abbrev pub undecided_at : Side → Bool → Bool
undecided_at In undecided = false
undecided_at Out undecided = undecided

-- the first of a list, or this where there is none
abbrev pub first_or : Option Bool → List Bool → Option Bool
first_or other [] = other
first_or other (x ∷ xs) = Some x

abbrev pub decided_answer : Option Bool → ConnAnswer
decided_answer None = conn.Pending
decided_answer (Some true) = conn.Connected
decided_answer (Some false) = conn.Failed

-- The clock

-- The reading with this number, counted from 0: the moments of the script's turns in their order, and then one step more for
-- each closing turn.
abbrev pub reading : List ScriptTurn → ℕ → ℕ → ℕ
reading turns step n =
    let moments = map (λ turn. turn.0) turns in
    slice_index_or moments n (unwrap_or (last_or None moments) 0 + step * (n + 1 - length turns))

module _ (turns : List ScriptTurn) (t : Trace) where
  -- how many turns were begun
  abbrev pub begun : ℕ
  begun = count_by is_turn t

  -- the lines of the turns so far, and of the running one alone
  abbrev pub lines : List TurnLine
  lines = flat_map (λ turn. turn.1) (take begun turns)

  abbrev pub lines_now : List TurnLine
  lines_now = flat_map (λ turn. turn.1) (drop (begun - 1) (take begun turns))

  abbrev pub is_closing : Bool
  is_closing = nat_lt (length turns) begun

  -- The links so far, told by whether their Out ends are undecided; and those of them that wait to be accepted.
  abbrev pub links : List Bool
  links = flat_map links_by lines

  abbrev pub waiting : List Bool
  waiting = drop (opened t) links

  -- does the script leave undecided whether an end is connected
  abbrev pub is_undecided : SideId → Bool
  is_undecided e = undecided_at e.side (slice_index_or links e.link false)

  -- what it decides of such an end, the first line that does counting: it is connected, or fails
  abbrev pub decision : SideId → Option Bool
  decision e = first_or (if is_closing then Some true else None) (flat_map (decides e.link) lines)

  -- the bytes that came in at an end and that no read gave yet
  abbrev pub pending : SideId → List ℕ
  pending e = drop (length (bytes_read e t)) (flat_map (brings e) lines)

  abbrev pub is_ended : SideId → Bool
  is_ended e = list_any (ends e) lines

  abbrev pub reads_fail : SideId → Bool
  reads_fail e = list_any (fails_reads e) lines

  -- how many bytes more an end takes; any number where none is told
  abbrev pub may_take : SideId → Option ℕ
  may_take e = if is_closing || list_any (allows_all e) lines then None else Some (sum_by (allows e) lines - length (bytes_given e t))

  abbrev pub writes_fail : SideId → Bool
  writes_fail e = not is_closing && list_any (fails_writes e) lines

  -- The poll

  abbrev pub poll_fails : Bool
  poll_fails = list_any fails_poll lines_now

  -- Reading is marked where bytes are pending, or reads fail or are ended behind them.
  abbrev pub can_read : SideId → Bool
  can_read e = nat_le 1 (length (pending e)) || reads_fail e || is_ended e

  -- An undecided end that was never answered to be connected is marked for writing once it is decided; every other end where
  -- it takes a byte, or where writes fail.
  abbrev pub can_write : SideId → Bool
  can_write e = if is_undecided e && not (is_connected e t) then is_some (decision e) else nat_le 1 (at_most (may_take e) 1) || writes_fail e

  -- what a poll marks of a want
  abbrev pub marked : Want → Want
  marked w =
      let all : Bool = list_any (marks_all w.side) lines_now in
      record w { read = w.read && (can_read w.side || all); write = w.write && (can_write w.side || all) }

  abbrev pub marks : List Want → List Want
  marks wants = filter (λ w. w.read || w.write) (map marked wants)

  -- Ends

  abbrev pub conn_answer : SideId → ConnAnswer
  conn_answer e = if is_undecided e then decided_answer (decision e) else (if is_made_connected e t then conn.Connected else conn.Pending)

  -- the least of the room and the pending bytes; with none pending a failure, or else the end, where it stands
  abbrev pub read_answer : SideId → ℕ → ReadAnswer × List ℕ
  read_answer e room =
      if nat_le 1 (length (pending e)) then (read.Got (min room (length (pending e))), take room (pending e))
      else (if reads_fail e then (read.Failed, []) else (if is_ended e then (read.Ended, []) else (read.NotYet, [])))

  -- the least of what is offered and what may be taken; where that is nothing, a failure where it stands
  abbrev pub write_answer : SideId → List ℕ → WriteAnswer × List ℕ
  write_answer e offered =
      let n = at_most (may_take e) (length offered) in
      if nat_le 1 n then (write.Took n, take n offered) else (if writes_fail e then (write.Failed, []) else (write.NotYet, []))
