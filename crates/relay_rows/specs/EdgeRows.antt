-- Runs at the edges of the rules, without hooks. Each line was worked out by hand from the rules.
use Rattle.std.specs.Prelude.{[], ◌∷◌}
use Rattle.ev_types.specs.declared.filter.FilterKind.TheVariants as kind
use Rattle.ev_types.specs.declared.why.Cause.TheVariants as cause
use Rattle.ev_types.specs.Trace.{Trace}
use Rattle.relay_model.specs.Settings.{Settings, usual}
use Rattle.relay_rows.specs.RowWords.{in_of, out_of, turn, poll, poll_for, wants_read, wants_write, wants_both, can_read, can_write, opens}
use Rattle.relay_rows.specs.RowWords.{opens_waiting, connects, connect_waits, gets, ends, ends_writing, write_fails, read_waits, read_fails}
use Rattle.relay_rows.specs.RowWords.{takes, write_waits, frees, closes}

-- In fails in the turn behind its bytes. They are given still, and only then is Out freed.
abbrev pub rest_given_after_a_free : Trace
rest_given_after_a_free =
    turn 0 ∷ poll ∷ opens 0
    ∷ turn 1 ∷ poll ∷ wants_read (in_of 0) ∷ wants_read (out_of 0) ∷ can_read (in_of 0) ∷ gets (in_of 0) 16384 (104 ∷ 105 ∷ [])
    ∷ turn 2 ∷ poll ∷ wants_read (in_of 0) ∷ wants_both (out_of 0) ∷ can_read (in_of 0) ∷ read_fails (in_of 0) 16384
    ∷ frees (in_of 0) cause.Failed 2 0 ∷ closes (in_of 0)
    ∷ turn 3 ∷ poll ∷ wants_write (out_of 0) ∷ can_write (out_of 0) ∷ takes (out_of 0) 2 (104 ∷ 105 ∷ [])
    ∷ frees (out_of 0) cause.PeerGone 0 2 ∷ closes (out_of 0)
    ∷ []

-- Both ends end at once. Writing is ended at Out and then at In, and the link is done.
abbrev pub both_end_at_once : Trace
both_end_at_once =
    turn 0 ∷ poll ∷ opens 0
    ∷ turn 1 ∷ poll ∷ wants_read (in_of 0) ∷ wants_read (out_of 0) ∷ can_read (in_of 0) ∷ can_read (out_of 0) ∷ ends (in_of 0) 16384
    ∷ ends (out_of 0) 16384
    ∷ ends_writing (out_of 0) ∷ ends_writing (in_of 0) ∷ frees (in_of 0) cause.Done 0 0 ∷ frees (out_of 0) cause.Done 0 0
    ∷ closes (in_of 0) ∷ closes (out_of 0)
    ∷ []

-- In ends while Out is connecting. Writing is ended at Out once it is connected.
abbrev pub ended_before_it_connects : Trace
ended_before_it_connects =
    turn 0 ∷ poll ∷ opens_waiting 0
    ∷ turn 1 ∷ poll ∷ wants_read (in_of 0) ∷ wants_write (out_of 0) ∷ can_read (in_of 0) ∷ can_write (out_of 0) ∷ ends (in_of 0) 16384
    ∷ connect_waits (out_of 0)
    ∷ turn 2 ∷ poll ∷ wants_write (out_of 0) ∷ can_write (out_of 0) ∷ connects (out_of 0) ∷ ends_writing (out_of 0)
    ∷ []

-- Ends that were marked have nothing after all. Nothing changes, and they are wanted again.
abbrev pub nothing_was_ready : Trace
nothing_was_ready =
    turn 0 ∷ poll ∷ opens 0
    ∷ turn 1 ∷ poll ∷ wants_read (in_of 0) ∷ wants_read (out_of 0) ∷ can_read (in_of 0) ∷ read_waits (in_of 0) 16384
    ∷ turn 2 ∷ poll ∷ wants_read (in_of 0) ∷ wants_read (out_of 0) ∷ can_read (in_of 0) ∷ gets (in_of 0) 16384 (97 ∷ [])
    ∷ turn 3 ∷ poll ∷ wants_read (in_of 0) ∷ wants_both (out_of 0) ∷ can_write (out_of 0) ∷ write_waits (out_of 0) 1
    ∷ turn 4 ∷ poll ∷ wants_read (in_of 0) ∷ wants_both (out_of 0)
    ∷ []

abbrev pub hex_out_held_at_one : Settings
hex_out_held_at_one = record usual { out_write = kind.HexIn; hold = 1 }

-- A write filter that has filled its output doesn't look at the next byte, which is bad, before there is room again.
abbrev pub bad_byte_behind_the_mark : Trace
bad_byte_behind_the_mark =
    turn 0 ∷ poll ∷ opens 0
    ∷ turn 1 ∷ poll ∷ wants_read (in_of 0) ∷ wants_read (out_of 0) ∷ can_read (in_of 0) ∷ gets (in_of 0) 16384 (51 ∷ 52 ∷ 122 ∷ 122 ∷ [])
    ∷ turn 2 ∷ poll ∷ wants_read (in_of 0) ∷ wants_both (out_of 0) ∷ can_write (out_of 0) ∷ takes (out_of 0) 1 (52 ∷ [])
    ∷ frees (out_of 0) (cause.Filter 2) 0 1 ∷ frees (in_of 0) cause.PeerGone 4 0 ∷ closes (in_of 0) ∷ closes (out_of 0)
    ∷ []

abbrev pub hex_out_held_at_four : Settings
hex_out_held_at_four = record usual { out_write = kind.HexIn; hold = 4 }

-- A held direction doesn't look at the next byte, though there is room for one.
abbrev pub bad_byte_while_held : Trace
bad_byte_while_held =
    turn 0 ∷ poll ∷ opens 0
    ∷ turn 1 ∷ poll ∷ wants_read (in_of 0) ∷ wants_read (out_of 0) ∷ can_read (in_of 0)
    ∷ gets (in_of 0) 16384 (51 ∷ 48 ∷ 51 ∷ 49 ∷ 51 ∷ 50 ∷ 51 ∷ 51 ∷ 122 ∷ 122 ∷ [])
    ∷ turn 2 ∷ poll ∷ wants_read (in_of 0) ∷ wants_both (out_of 0) ∷ can_write (out_of 0) ∷ takes (out_of 0) 4 (48 ∷ [])
    ∷ turn 3 ∷ poll ∷ wants_read (in_of 0) ∷ wants_both (out_of 0) ∷ can_write (out_of 0) ∷ takes (out_of 0) 3 (49 ∷ [])
    ∷ frees (out_of 0) (cause.Filter 8) 0 2 ∷ frees (in_of 0) cause.PeerGone 10 0 ∷ closes (in_of 0) ∷ closes (out_of 0)
    ∷ []

abbrev pub hex_in_marked_at_six : Settings
hex_in_marked_at_six =
    record usual { in_read = kind.HexOut; in_marks = record { read_low = 0; read_high = 6; write_low = 0; write_high = 0 }; hold = 1 }

-- A read filter stops as soon as there are six bytes, and goes on once they are moved. Six more wait then, and In isn't wanted.
abbrev pub read_filter_stops_at_the_mark : Trace
read_filter_stops_at_the_mark =
    turn 0 ∷ poll ∷ opens 0
    ∷ turn 1 ∷ poll ∷ wants_read (in_of 0) ∷ wants_read (out_of 0) ∷ can_read (in_of 0) ∷ gets (in_of 0) 6 (1 ∷ 2 ∷ 3 ∷ 4 ∷ 5 ∷ 6 ∷ [])
    ∷ turn 2 ∷ poll ∷ wants_both (out_of 0) ∷ can_write (out_of 0) ∷ takes (out_of 0) 1 (48 ∷ [])
    ∷ turn 3 ∷ poll ∷ wants_both (out_of 0)
    ∷ []

abbrev pub write_timeout_out : Settings
write_timeout_out = record usual { out_timeouts = record { read_ms = 0; write_ms = 1000 } }

-- The write timeout of a connecting end runs from the opening on. As it passes the end is still wanted, though disabled.
abbrev pub connects_too_late : Trace
connects_too_late =
    turn 0 ∷ poll ∷ opens_waiting 0
    ∷ turn 400 ∷ poll_for 600 ∷ wants_read (in_of 0) ∷ wants_write (out_of 0)
    ∷ turn 1000 ∷ poll_for 0 ∷ wants_read (in_of 0) ∷ wants_write (out_of 0)
    ∷ frees (out_of 0) cause.Timeout 0 0 ∷ frees (in_of 0) cause.PeerGone 0 0 ∷ closes (in_of 0) ∷ closes (out_of 0)
    ∷ []

abbrev pub read_timeout_out : Settings
read_timeout_out = record usual { out_timeouts = record { read_ms = 1000; write_ms = 0 } }

-- The read timeout of Out passes in the turn in which its write fails. That it failed comes first.
abbrev pub failed_and_expired : Trace
failed_and_expired =
    turn 0 ∷ poll ∷ opens 0
    ∷ turn 1 ∷ poll_for 999 ∷ wants_read (in_of 0) ∷ wants_read (out_of 0) ∷ can_read (in_of 0) ∷ gets (in_of 0) 16384 (97 ∷ [])
    ∷ turn 1000 ∷ poll_for 0 ∷ wants_read (in_of 0) ∷ wants_write (out_of 0) ∷ can_write (out_of 0) ∷ write_fails (out_of 0) 1
    ∷ frees (out_of 0) cause.Failed 0 0 ∷ frees (in_of 0) cause.PeerGone 1 0 ∷ closes (in_of 0) ∷ closes (out_of 0)
    ∷ []

-- So long as Out has nothing to write its timeout doesn't run. A byte that it takes is activity.
abbrev pub writing_is_activity : Trace
writing_is_activity =
    turn 0 ∷ poll ∷ opens 0
    ∷ turn 500 ∷ poll ∷ wants_read (in_of 0) ∷ wants_read (out_of 0) ∷ can_read (in_of 0) ∷ gets (in_of 0) 16384 (104 ∷ 105 ∷ [])
    ∷ turn 600 ∷ poll_for 900 ∷ wants_read (in_of 0) ∷ wants_both (out_of 0) ∷ can_write (out_of 0) ∷ takes (out_of 0) 2 (104 ∷ [])
    ∷ turn 700 ∷ poll_for 900 ∷ wants_read (in_of 0) ∷ wants_both (out_of 0)
    ∷ []
