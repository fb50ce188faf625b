-- Worked runs without filters, marks, limits, timeouts and hooks. Each line was worked out by hand from the rules.
use Rattle.std.specs.Prelude.{[], ◌∷◌}
use Rattle.ev_types.specs.declared.why.Cause.TheVariants as cause
use Rattle.ev_types.specs.Trace.{Trace}
use Rattle.relay_rows.specs.RowWords.{in_of, out_of, turn, poll, poll_failed, wants_read, wants_write, wants_both, can_read, can_write}
use Rattle.relay_rows.specs.RowWords.{can_both, opens, opens_waiting, connect_fails, gets, ends, takes, write_fails, frees, ends_writing}
use Rattle.relay_rows.specs.RowWords.{closes}

-- Two bytes come and the end with them. They are given in the next turn, and writing is ended behind them.
abbrev pub bytes_then_end : Trace
bytes_then_end =
    turn 0 ∷ poll ∷ opens 0
    ∷ turn 1 ∷ poll ∷ wants_read (in_of 0) ∷ wants_read (out_of 0) ∷ can_read (in_of 0) ∷ gets (in_of 0) 16384 (104 ∷ 105 ∷ [])
    ∷ turn 2 ∷ poll ∷ wants_read (in_of 0) ∷ wants_both (out_of 0) ∷ can_read (in_of 0) ∷ can_write (out_of 0)
    ∷ ends (in_of 0) 16384 ∷ takes (out_of 0) 2 (104 ∷ 105 ∷ []) ∷ ends_writing (out_of 0)
    ∷ []

-- Nothing may be written: the bytes stay, and the link too.
abbrev pub nothing_may_be_written : Trace
nothing_may_be_written =
    turn 0 ∷ poll ∷ opens 0
    ∷ turn 1 ∷ poll ∷ wants_read (in_of 0) ∷ wants_read (out_of 0) ∷ can_read (in_of 0) ∷ gets (in_of 0) 16384 (104 ∷ 105 ∷ [])
    ∷ turn 2 ∷ poll ∷ wants_read (in_of 0) ∷ wants_both (out_of 0) ∷ can_read (in_of 0) ∷ ends (in_of 0) 16384
    ∷ []

-- One byte comes and one is given in each turn; writing is ended behind the second.
abbrev pub byte_by_byte : Trace
byte_by_byte =
    turn 0 ∷ poll ∷ opens 0
    ∷ turn 1 ∷ poll ∷ wants_read (in_of 0) ∷ wants_read (out_of 0) ∷ can_read (in_of 0) ∷ gets (in_of 0) 16384 (104 ∷ [])
    ∷ turn 2 ∷ poll ∷ wants_read (in_of 0) ∷ wants_both (out_of 0) ∷ can_read (in_of 0) ∷ can_write (out_of 0)
    ∷ gets (in_of 0) 16384 (105 ∷ []) ∷ takes (out_of 0) 1 (104 ∷ [])
    ∷ turn 3 ∷ poll ∷ wants_read (in_of 0) ∷ wants_both (out_of 0) ∷ can_read (in_of 0) ∷ can_write (out_of 0)
    ∷ ends (in_of 0) 16384 ∷ takes (out_of 0) 1 (105 ∷ []) ∷ ends_writing (out_of 0)
    ∷ []

-- A write takes three bytes of eight, and the next one fails. Its side is freed, and then the other, whose bytes are dropped.
abbrev pub write_that_fails : Trace
write_that_fails =
    turn 0 ∷ poll ∷ opens 0
    ∷ turn 1 ∷ poll ∷ wants_read (in_of 0) ∷ wants_read (out_of 0) ∷ can_read (in_of 0)
    ∷ gets (in_of 0) 16384 (48 ∷ 49 ∷ 50 ∷ 51 ∷ 52 ∷ 53 ∷ 54 ∷ 55 ∷ [])
    ∷ turn 2 ∷ poll ∷ wants_read (in_of 0) ∷ wants_both (out_of 0) ∷ can_write (out_of 0) ∷ takes (out_of 0) 8 (48 ∷ 49 ∷ 50 ∷ [])
    ∷ turn 3 ∷ poll ∷ wants_read (in_of 0) ∷ wants_both (out_of 0) ∷ can_write (out_of 0) ∷ write_fails (out_of 0) 5
    ∷ frees (out_of 0) cause.Failed 0 3 ∷ frees (in_of 0) cause.PeerGone 8 0 ∷ closes (in_of 0) ∷ closes (out_of 0)
    ∷ []

-- A request goes one way and its answer the other. Each end ends, writing is ended at both, and the link is done.
abbrev pub request_and_answer : Trace
request_and_answer =
    turn 0 ∷ poll ∷ opens 0
    ∷ turn 1 ∷ poll ∷ wants_read (in_of 0) ∷ wants_read (out_of 0) ∷ can_read (in_of 0) ∷ gets (in_of 0) 16384 (71 ∷ 69 ∷ 84 ∷ [])
    ∷ turn 2 ∷ poll ∷ wants_read (in_of 0) ∷ wants_both (out_of 0) ∷ can_read (in_of 0) ∷ can_both (out_of 0)
    ∷ ends (in_of 0) 16384 ∷ gets (out_of 0) 16384 (50 ∷ 48 ∷ 48 ∷ []) ∷ takes (out_of 0) 3 (71 ∷ 69 ∷ 84 ∷ []) ∷ ends_writing (out_of 0)
    ∷ turn 3 ∷ poll ∷ wants_write (in_of 0) ∷ wants_read (out_of 0) ∷ can_write (in_of 0) ∷ can_read (out_of 0)
    ∷ takes (in_of 0) 3 (50 ∷ 48 ∷ 48 ∷ []) ∷ ends (out_of 0) 16384 ∷ ends_writing (in_of 0)
    ∷ frees (in_of 0) cause.Done 3 3 ∷ frees (out_of 0) cause.Done 3 3 ∷ closes (in_of 0) ∷ closes (out_of 0)
    ∷ []

-- The Out end can't be connected. A byte that came at In in that turn was moved, and goes with the side.
abbrev pub connect_that_fails : Trace
connect_that_fails =
    turn 0 ∷ poll ∷ opens_waiting 0
    ∷ turn 1 ∷ poll ∷ wants_read (in_of 0) ∷ wants_write (out_of 0) ∷ can_read (in_of 0) ∷ can_write (out_of 0)
    ∷ gets (in_of 0) 16384 (97 ∷ []) ∷ connect_fails (out_of 0)
    ∷ frees (out_of 0) cause.Failed 0 0 ∷ frees (in_of 0) cause.PeerGone 1 0 ∷ closes (in_of 0) ∷ closes (out_of 0)
    ∷ []

-- Out ends at once, and In behind two bytes; closing turns a second apart bring the link to its end.
abbrev pub drained_at_the_end : Trace
drained_at_the_end =
    turn 0 ∷ poll ∷ opens 0
    ∷ turn 1000 ∷ poll ∷ wants_read (in_of 0) ∷ wants_read (out_of 0) ∷ can_read (in_of 0) ∷ can_read (out_of 0)
    ∷ gets (in_of 0) 16384 (104 ∷ 105 ∷ []) ∷ ends (out_of 0) 16384 ∷ ends_writing (in_of 0)
    ∷ turn 2000 ∷ poll ∷ wants_read (in_of 0) ∷ wants_write (out_of 0) ∷ can_read (in_of 0) ∷ can_write (out_of 0)
    ∷ ends (in_of 0) 16384 ∷ takes (out_of 0) 2 (104 ∷ 105 ∷ []) ∷ ends_writing (out_of 0)
    ∷ frees (in_of 0) cause.Done 2 0 ∷ frees (out_of 0) cause.Done 0 2 ∷ closes (in_of 0) ∷ closes (out_of 0)
    ∷ []

-- A clock that goes back holds the time still.
abbrev pub time_stands_still : Trace
time_stands_still = turn 5000 ∷ poll ∷ turn 5000 ∷ poll ∷ []

-- The first poll fails.
abbrev pub poll_that_fails : Trace
poll_that_fails = turn 0 ∷ poll ∷ poll_failed ∷ []
