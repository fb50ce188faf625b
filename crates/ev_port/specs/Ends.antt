-- What the calls on one end say: connect checks, reads, writes, the end of writing and the close. Which answers may
-- come, what is counted, and which entries of a trace the call is.
use Rattle.std.specs.Prelude.{ℕ, ◌<◌, ◌≤◌, ⊤, length, take, Bool, true, false, List, [], ◌∷◌}
use Rattle.ev_types.specs.declared.side.SideId.{SideId}
use Rattle.ev_types.specs.declared.answer.ConnAnswer.{ConnAnswer}
use Rattle.ev_types.specs.declared.answer.ConnAnswer.TheVariants as conn
use Rattle.ev_types.specs.declared.answer.ReadAnswer.{ReadAnswer}
use Rattle.ev_types.specs.declared.answer.ReadAnswer.TheVariants as read
use Rattle.ev_types.specs.declared.answer.WriteAnswer.{WriteAnswer}
use Rattle.ev_types.specs.declared.answer.WriteAnswer.TheVariants as write
use Rattle.ev_types.specs.declared.entry.Entry.TheVariants as entry
use Rattle.ev_types.specs.Trace.{Trace}
use Rattle.ev_port.specs.EndSteps.{EndStep, no_step}

abbrev pub is_failed_conn : ConnAnswer → Bool
is_failed_conn conn.Failed = true
is_failed_conn conn.Connected = false
is_failed_conn conn.Pending = false

abbrev pub is_connected : ConnAnswer → Bool
is_connected conn.Connected = true
is_connected conn.Pending = false
is_connected conn.Failed = false

abbrev pub conn_step : ConnAnswer → EndStep
conn_step answer = record no_step { checks = 1; connected = is_connected answer }

abbrev pub conn_events : SideId → ConnAnswer → Trace
conn_events end answer = (entry.Conn end answer, []) ∷ []

-- a count of at least 1 and at most the slice's length
abbrev pub ReadWithin : ReadAnswer → ℕ → Type 0
ReadWithin (read.Got n) most = (0 < n) × (n ≤ most)
ReadWithin read.Ended most = ⊤
ReadWithin read.NotYet most = ⊤
ReadWithin read.Failed most = ⊤

abbrev pub is_failed_read : ReadAnswer → Bool
is_failed_read read.Failed = true
is_failed_read (read.Got n) = false
is_failed_read read.Ended = false
is_failed_read read.NotYet = false

abbrev pub is_ended : ReadAnswer → Bool
is_ended read.Ended = true
is_ended (read.Got n) = false
is_ended read.NotYet = false
is_ended read.Failed = false

-- the bytes that a read put in front of the slice
abbrev pub got_bytes : ReadAnswer → List ℕ → List ℕ
got_bytes (read.Got n) into = take n into
got_bytes read.Ended into = []
got_bytes read.NotYet into = []
got_bytes read.Failed into = []

abbrev pub read_step : ReadAnswer → List ℕ → EndStep
read_step answer into = record no_step { got = got_bytes answer into; ended = is_ended answer; reads = 1; room = length into }

abbrev pub read_events : SideId → List ℕ → ReadAnswer → Trace
read_events end into answer = (entry.Read end (length into) answer, got_bytes answer into) ∷ []

-- a count of at least 1 and at most the slice's length
abbrev pub WriteWithin : WriteAnswer → ℕ → Type 0
WriteWithin (write.Took n) most = (0 < n) × (n ≤ most)
WriteWithin write.NotYet most = ⊤
WriteWithin write.Failed most = ⊤
WriteWithin write.NoMemory most = ⊤

abbrev pub is_failed_write : WriteAnswer → Bool
is_failed_write write.Failed = true
is_failed_write (write.Took n) = false
is_failed_write write.NotYet = false
is_failed_write write.NoMemory = false

-- the bytes that a write took from the front of the slice
abbrev pub took_bytes : WriteAnswer → List ℕ → List ℕ
took_bytes (write.Took n) from = take n from
took_bytes write.NotYet from = []
took_bytes write.Failed from = []
took_bytes write.NoMemory from = []

-- a write answered with want of memory is no step
abbrev pub write_step : WriteAnswer → List ℕ → EndStep
write_step write.NoMemory from = no_step
write_step answer from = record no_step { took = took_bytes answer from; writes = 1; offer = length from }

abbrev pub write_events : SideId → List ℕ → WriteAnswer → Trace
write_events end from write.NoMemory = []
write_events end from answer = (entry.Write end (length from) answer, took_bytes answer from) ∷ []

-- Ends of writing and of ends

abbrev pub close_write_step : EndStep
close_write_step = record no_step { write_ended = true }

abbrev pub close_step : EndStep
close_step = record no_step { closed = true }

abbrev pub close_write_events : SideId → Trace
close_write_events end = (entry.CloseWrite end, []) ∷ []

abbrev pub close_events : SideId → Trace
close_events end = (entry.Close end, []) ∷ []
