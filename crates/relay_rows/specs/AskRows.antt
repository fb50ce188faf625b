-- Runs in which hooks hear each kind of reason and ask most of what they can. Each line was worked out by hand from the rules.
use Rattle.std.specs.Prelude.{◌+◌, ◌^◌, [], ◌∷◌, Some}
use Rattle.token_bucket.specs.declared.limit.Dir.TheVariants as dir
use Rattle.ev_types.specs.declared.act.Act.TheVariants as act
use Rattle.ev_types.specs.declared.answer.AskAnswer.TheVariants as ask
use Rattle.ev_types.specs.declared.filter.FilterKind.TheVariants as kind
use Rattle.ev_types.specs.declared.why.Cause.TheVariants as cause
use Rattle.ev_types.specs.declared.why.Why.TheVariants as why
use Rattle.ev_types.specs.Trace.{Trace}
use Rattle.relay_model.specs.Settings.{Settings, usual}
use Rattle.relay_model.specs.Due.{event}
use Rattle.relay_rows.specs.RowWords.{in_of, out_of, turn, poll, poll_for, wants_read, wants_write, wants_both, can_read, can_write, opens}
use Rattle.relay_rows.specs.RowWords.{opens_waiting, connects, connect_waits, gets, ends, takes, write_fails, fires, asks, frees, closes}
use Rattle.relay_rows.specs.RateRows.{letters, ten_a_second}

abbrev pub two_hooks : Settings
two_hooks = record usual { hooks = in_of 0 ∷ out_of 0 ∷ [] }

-- An end of file is told with its direction, 0x11, and so is a failed write, 0x22.
abbrev pub end_and_fault_told : Trace
end_and_fault_told =
    turn 0 ∷ poll ∷ opens 0
    ∷ turn 1 ∷ poll ∷ wants_read (in_of 0) ∷ wants_read (out_of 0) ∷ can_read (in_of 0) ∷ gets (in_of 0) 16384 (97 ∷ [])
    ∷ fires (in_of 0) why.Read
    ∷ turn 2 ∷ poll ∷ wants_read (in_of 0) ∷ wants_both (out_of 0) ∷ can_read (in_of 0) ∷ can_write (out_of 0)
    ∷ ends (in_of 0) 16384 ∷ write_fails (out_of 0) 1 ∷ fires (in_of 0) (event 17) ∷ fires (out_of 0) (event 34)
    ∷ frees (out_of 0) cause.Failed 0 0 ∷ frees (in_of 0) cause.PeerGone 1 0 ∷ closes (in_of 0) ∷ closes (out_of 0)
    ∷ []

-- Out is connected in the second try. It is told so, and written in the turn behind.
abbrev pub connected_and_written : Trace
connected_and_written =
    turn 0 ∷ poll ∷ opens_waiting 0
    ∷ turn 1 ∷ poll ∷ wants_read (in_of 0) ∷ wants_write (out_of 0) ∷ can_read (in_of 0) ∷ can_write (out_of 0)
    ∷ gets (in_of 0) 16384 (97 ∷ []) ∷ connect_waits (out_of 0) ∷ fires (in_of 0) why.Read
    ∷ turn 2 ∷ poll ∷ wants_read (in_of 0) ∷ wants_write (out_of 0) ∷ can_write (out_of 0) ∷ connects (out_of 0)
    ∷ fires (out_of 0) why.Connected
    ∷ turn 3 ∷ poll ∷ wants_read (in_of 0) ∷ wants_both (out_of 0) ∷ can_write (out_of 0) ∷ takes (out_of 0) 1 (97 ∷ [])
    ∷ fires (out_of 0) why.Write
    ∷ []

abbrev pub hook_and_timeouts_out : Settings
hook_and_timeouts_out = record usual { hooks = out_of 0 ∷ []; out_timeouts = record { read_ms = 1000; write_ms = 1000 } }

-- Both timeouts of Out pass in one turn. They are told as one event, 0x43.
abbrev pub two_timeouts_joined : Trace
two_timeouts_joined =
    turn 0 ∷ poll ∷ opens 0
    ∷ turn 1 ∷ poll_for 999 ∷ wants_read (in_of 0) ∷ wants_read (out_of 0) ∷ can_read (in_of 0) ∷ gets (in_of 0) 16384 (104 ∷ 105 ∷ [])
    ∷ turn 1001 ∷ poll_for 0 ∷ wants_read (in_of 0) ∷ fires (out_of 0) (event 67)
    ∷ frees (out_of 0) cause.Timeout 0 0 ∷ frees (in_of 0) cause.PeerGone 2 0 ∷ closes (in_of 0) ∷ closes (out_of 0)
    ∷ []

abbrev pub hook_and_low_mark_in : Settings
hook_and_low_mark_in =
    record usual { hooks = in_of 0 ∷ []; in_marks = record { read_low = 2; read_high = 0; write_low = 0; write_high = 0 } }

-- The read reason comes with the second byte of one read, and not with the first of another.
abbrev pub low_mark_reached : Trace
low_mark_reached =
    turn 0 ∷ poll ∷ opens 0
    ∷ turn 1 ∷ poll ∷ wants_read (in_of 0) ∷ wants_read (out_of 0) ∷ can_read (in_of 0) ∷ gets (in_of 0) 16384 (97 ∷ [])
    ∷ turn 2 ∷ poll ∷ wants_read (in_of 0) ∷ wants_both (out_of 0) ∷ can_read (in_of 0) ∷ gets (in_of 0) 16384 (97 ∷ 98 ∷ [])
    ∷ fires (in_of 0) why.Read
    ∷ []

-- A hook disables what its peer would write, and enables it a turn later.
abbrev pub writing_disabled_for_a_turn : Trace
writing_disabled_for_a_turn =
    turn 0 ∷ poll ∷ opens 0
    ∷ turn 1 ∷ poll ∷ wants_read (in_of 0) ∷ wants_read (out_of 0) ∷ can_read (in_of 0) ∷ gets (in_of 0) 16384 (97 ∷ [])
    ∷ fires (in_of 0) why.Read ∷ asks (in_of 0) (act.Disable (out_of 0) dir.Write) ask.Ok
    ∷ turn 2 ∷ poll ∷ wants_read (in_of 0) ∷ wants_read (out_of 0) ∷ can_read (in_of 0) ∷ gets (in_of 0) 16384 (98 ∷ [])
    ∷ fires (in_of 0) why.Read ∷ asks (in_of 0) (act.Enable (out_of 0) dir.Write) ask.Ok
    ∷ turn 3 ∷ poll ∷ wants_read (in_of 0) ∷ wants_both (out_of 0) ∷ can_write (out_of 0) ∷ takes (out_of 0) 2 (97 ∷ 98 ∷ [])
    ∷ fires (out_of 0) why.Write
    ∷ []

-- Asks are refused by the first rule that they break. A reference outlives its side, once.
abbrev pub asks_refused : Trace
asks_refused =
    turn 0 ∷ poll ∷ opens 0
    ∷ turn 1 ∷ poll ∷ wants_read (in_of 0) ∷ wants_read (out_of 0) ∷ can_read (in_of 0) ∷ gets (in_of 0) 16384 (97 ∷ [])
    ∷ fires (in_of 0) why.Read
    ∷ asks (in_of 0) (act.Marks (in_of 0) dir.Read 0 (2 ^ 24 + 1)) ask.BadValue
    ∷ asks (in_of 0) (act.Marks (in_of 1) dir.Read 0 (2 ^ 24 + 1)) ask.NotLive
    ∷ asks (in_of 0) (act.Timeouts (in_of 0) (2 ^ 40 + 1) 0) ask.BadValue
    ∷ asks (in_of 0) (act.Timer (in_of 0) (2 ^ 40 + 1)) ask.BadValue
    ∷ asks (in_of 0) (act.Timer (in_of 0) 5) ask.Memory
    ∷ asks (in_of 0) (act.Leave (in_of 0)) ask.BadValue
    ∷ asks (in_of 0) (act.Join (in_of 0) 0) ask.NoGroup
    ∷ asks (in_of 0) (act.Decref (in_of 0)) ask.BadValue
    ∷ asks (in_of 0) (act.Incref (in_of 0)) ask.Ok
    ∷ asks (in_of 0) (act.Free (in_of 0)) ask.Ok ∷ frees (in_of 0) cause.Hook 0 0
    ∷ asks (in_of 0) (act.Incref (in_of 0)) ask.NotLive
    ∷ asks (in_of 0) (act.Decref (in_of 0)) ask.Ok
    ∷ asks (in_of 0) (act.Decref (in_of 0)) ask.NotLive
    ∷ asks (in_of 0) (act.Trigger (in_of 0) dir.Read) ask.NotLive
    ∷ frees (out_of 0) cause.PeerGone 0 0 ∷ closes (in_of 0) ∷ closes (out_of 0)
    ∷ turn 2 ∷ poll
    ∷ []

-- A reason that is asked for is fired in the next turn, whose poll doesn't wait.
abbrev pub triggered : Trace
triggered =
    turn 0 ∷ poll ∷ opens 0
    ∷ turn 1 ∷ poll ∷ wants_read (in_of 0) ∷ wants_read (out_of 0) ∷ can_read (in_of 0) ∷ gets (in_of 0) 16384 (97 ∷ [])
    ∷ fires (in_of 0) why.Read ∷ asks (in_of 0) (act.Trigger (in_of 0) dir.Read) ask.Ok
    ∷ turn 2 ∷ poll_for 0 ∷ wants_read (in_of 0) ∷ wants_both (out_of 0) ∷ fires (in_of 0) why.Read
    ∷ turn 3 ∷ poll ∷ wants_read (in_of 0) ∷ wants_both (out_of 0)
    ∷ []

-- A hook sets a first limit of 10 bytes a second, which begins with 10.
abbrev pub limit_asked_for : Trace
limit_asked_for =
    turn 0 ∷ poll ∷ opens 0
    ∷ turn 1 ∷ poll ∷ wants_read (in_of 0) ∷ wants_read (out_of 0) ∷ can_read (in_of 0) ∷ gets (in_of 0) 16384 (97 ∷ [])
    ∷ fires (in_of 0) why.Read ∷ asks (in_of 0) (act.Rate (in_of 0) (Some ten_a_second)) ask.Ok
    ∷ turn 2 ∷ poll ∷ wants_read (in_of 0) ∷ wants_both (out_of 0) ∷ can_read (in_of 0) ∷ gets (in_of 0) 10 (letters 10)
    ∷ fires (in_of 0) why.Read
    ∷ turn 3 ∷ poll_for 997 ∷ wants_both (out_of 0)
    ∷ turn 1000 ∷ poll ∷ wants_read (in_of 0) ∷ wants_both (out_of 0) ∷ can_read (in_of 0) ∷ gets (in_of 0) 10 (letters 10)
    ∷ fires (in_of 0) why.Read
    ∷ []

abbrev pub hook_in_and_hex_out : Settings
hook_in_and_hex_out = record usual { out_write = kind.HexIn; hold = 1; hooks = in_of 0 ∷ [] }

-- An odd digit waits behind the hold mark as its side is freed. No filter finishes then, so that its end isn't bad.
abbrev pub no_end_behind_a_free : Trace
no_end_behind_a_free =
    turn 0 ∷ poll ∷ opens 0
    ∷ turn 1 ∷ poll ∷ wants_read (in_of 0) ∷ wants_read (out_of 0) ∷ can_read (in_of 0) ∷ gets (in_of 0) 16384 (51 ∷ 52 ∷ 52 ∷ [])
    ∷ fires (in_of 0) why.Read
    ∷ turn 2 ∷ poll ∷ wants_read (in_of 0) ∷ wants_both (out_of 0) ∷ can_read (in_of 0) ∷ ends (in_of 0) 16384
    ∷ fires (in_of 0) (event 17) ∷ asks (in_of 0) (act.Timer (in_of 0) 1) ask.Ok
    ∷ turn 3 ∷ poll_for 0 ∷ wants_both (out_of 0) ∷ can_write (out_of 0) ∷ takes (out_of 0) 1 (52 ∷ [])
    ∷ fires (in_of 0) why.Timer ∷ asks (in_of 0) (act.Free (in_of 0)) ask.Ok ∷ frees (in_of 0) cause.Hook 3 0
    ∷ frees (out_of 0) cause.PeerGone 0 1 ∷ closes (in_of 0) ∷ closes (out_of 0)
    ∷ []
