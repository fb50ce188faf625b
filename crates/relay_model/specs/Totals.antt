-- What a trace says of the calls on a port: how often each was made, with how much, and what came of it.
use Rattle.std.specs.Prelude.{ℕ, ◌+◌, Bool, true, false, ◌==◌, ◌&&◌, nat_lt, if◌then◌else◌, List, [], ◌∷◌, fold, count_by, Option}
use Rattle.std.specs.List.{flat_map, list_any}
use Rattle.ev_types.specs.declared.side.Side.{Side}
use Rattle.ev_types.specs.declared.side.Side.TheVariants.{In, Out}
use Rattle.ev_types.specs.declared.side.SideId.{SideId}
use Rattle.ev_types.specs.declared.answer.ConnAnswer.TheVariants as conn
use Rattle.ev_types.specs.declared.entry.Entry.TheVariants as entry
use Rattle.ev_types.specs.Sides.{same_end}
use Rattle.ev_types.specs.Trace.{Event, Trace}

-- Of one end

-- is it a read, a write or a connect check of the end
abbrev pub is_read_of : SideId → Event → Bool
is_read_of e (entry.Read side room answer, bytes) = same_end side e
is_read_of e _ = false

abbrev pub is_write_of : SideId → Event → Bool
is_write_of e (entry.Write side offered answer, bytes) = same_end side e
is_write_of e _ = false

abbrev pub is_check_of : SideId → Event → Bool
is_check_of e (entry.Conn side answer, bytes) = same_end side e
is_check_of e _ = false

-- the room that a read of the end had, and the bytes that a write of it was offered
abbrev pub room_by : SideId → Event → ℕ
room_by e (entry.Read side room answer, bytes) = if same_end side e then room else 0
room_by e _ = 0

abbrev pub offered_by : SideId → Event → ℕ
offered_by e (entry.Write side offered answer, bytes) = if same_end side e then offered else 0
offered_by e _ = 0

-- is reading or writing of the end wanted, and is it marked
abbrev pub wants_read_by : SideId → Event → Bool
wants_read_by e (entry.Want side read write, bytes) = same_end side e && read
wants_read_by e _ = false

abbrev pub wants_write_by : SideId → Event → Bool
wants_write_by e (entry.Want side read write, bytes) = same_end side e && write
wants_write_by e _ = false

abbrev pub marks_read_by : SideId → Event → Bool
marks_read_by e (entry.Ready side read write, bytes) = same_end side e && read
marks_read_by e _ = false

abbrev pub marks_write_by : SideId → Event → Bool
marks_write_by e (entry.Ready side read write, bytes) = same_end side e && write
marks_write_by e _ = false

-- In is connected as its link is opened, and Out where the entry says so.
abbrev pub comes_connected : Side → Bool → Bool
comes_connected In connected = true
comes_connected Out connected = connected

abbrev pub made_connected_by : SideId → Event → Bool
made_connected_by e (entry.Opened link connected, bytes) = link == e.link && comes_connected e.side connected
made_connected_by e _ = false

abbrev pub connected_by : SideId → Event → Bool
connected_by e (entry.Conn side conn.Connected, bytes) = same_end side e
connected_by e _ = false

abbrev pub closed_by : SideId → Event → Bool
closed_by e (entry.Close side, bytes) = same_end side e
closed_by e _ = false

-- the end was connected as its link was opened
abbrev pub is_made_connected : SideId → Trace → Bool
is_made_connected e t = list_any (made_connected_by e) t

-- a connect check was answered with connected
abbrev pub is_connected : SideId → Trace → Bool
is_connected e t = list_any (connected_by e) t

-- the end was closed
abbrev pub is_closed : SideId → Trace → Bool
is_closed e t = list_any (closed_by e) t

-- Of the whole port

abbrev pub is_opened : Event → Bool
is_opened (entry.Opened link connected, bytes) = true
is_opened _ = false

-- how many links were opened
abbrev pub opened : Trace → ℕ
opened t = count_by is_opened t

abbrev pub opened_by : ℕ → Event → ℕ
opened_by n (entry.Turn ms, bytes) = 0
opened_by n (entry.Opened link connected, bytes) = n + 1
opened_by n _ = n

-- how many links were opened in the last turn
abbrev pub opened_in_turn : Trace → ℕ
opened_in_turn t = fold opened_by 0 t

abbrev pub time_of_turn : Event → List ℕ
time_of_turn (entry.Turn ms, bytes) = ms ∷ []
time_of_turn _ = []

-- the times of the turns
abbrev pub times : Trace → List ℕ
times t = flat_map time_of_turn t

abbrev pub timeout_by : Option ℕ → Event → Option ℕ
timeout_by was (entry.Poll timeout, bytes) = timeout
timeout_by was _ = was

-- the timeout of the last poll, or this one where there is none
abbrev pub last_timeout : Option ℕ → Trace → Option ℕ
last_timeout was t = fold timeout_by was t

abbrev pub is_poll : Event → Bool
is_poll (entry.Poll timeout, bytes) = true
is_poll _ = false

-- How many polls there are behind fewer links than may be opened in all, so many being opened before the trace.
abbrev pub polls_that_accept : ℕ → ℕ → Trace → ℕ
polls_that_accept links before [] = 0
polls_that_accept links before (x ∷ t) =
    (if is_poll x && nat_lt before links then 1 else 0) + polls_that_accept links (before + (if is_opened x then 1 else 0)) t
