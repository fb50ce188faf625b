-- Traces that can stand, each with one event behind it that can't. They are small changes of worked runs.
use Rattle.std.specs.Prelude.{[], ◌∷◌, ◌++◌, replicate}
use Rattle.ev_types.specs.declared.act.Act.TheVariants as act
use Rattle.ev_types.specs.declared.answer.AskAnswer.TheVariants as ask
use Rattle.ev_types.specs.declared.why.Cause.TheVariants as cause
use Rattle.ev_types.specs.declared.why.Why.TheVariants as why
use Rattle.ev_types.specs.Trace.{Event, Trace}
use Rattle.relay_model.specs.Settings.{Settings, usual}
use Rattle.relay_rows.specs.RowWords.{in_of, out_of, turn, poll, poll_for, poll_failed, wants_read, wants_both, can_read, can_write, opens}
use Rattle.relay_rows.specs.RowWords.{gets, ends, takes, write_fails, fires, asks, frees, ends_writing, closes}
use Rattle.relay_rows.specs.Wrong.{Wrong, wrong}
use Rattle.relay_rows.specs.HookRows.{hook_in, three_hooks, timeout_in}

-- One link is open, and another turn polls. Both sides want to read, and In is marked. In gives two bytes.
abbrev opened : Trace
opened = turn 0 ∷ poll ∷ opens 0 ∷ []

abbrev polled : Trace
polled = opened ++ turn 1 ∷ poll ∷ []

abbrev marked : Trace
marked = polled ++ wants_read (in_of 0) ∷ wants_read (out_of 0) ∷ can_read (in_of 0) ∷ []

abbrev got_two : Trace
got_two = marked ++ gets (in_of 0) 16384 (104 ∷ 105 ∷ []) ∷ []

-- In ends in the next turn, and Out is ready to take.
abbrev ended : Trace
ended = got_two ++ turn 2 ∷ poll ∷ wants_read (in_of 0) ∷ wants_both (out_of 0) ∷ can_read (in_of 0) ∷ can_write (out_of 0)
    ∷ ends (in_of 0) 16384 ∷ []

-- Of the turn's frame

abbrev pub time_falls : Wrong
time_falls = wrong usual (turn 5000 ∷ poll ∷ []) (turn 1000)

abbrev pub turn_after_a_failed_poll : Wrong
turn_after_a_failed_poll = wrong usual (turn 0 ∷ poll ∷ poll_failed ∷ []) (turn 1)

abbrev pub turn_within_a_turn : Wrong
turn_within_a_turn = wrong usual polled (turn 2)

abbrev pub link_out_of_order : Wrong
link_out_of_order = wrong usual (turn 0 ∷ poll ∷ []) (opens 1)

-- Of wants, marks, rooms

abbrev pub want_left_out : Wrong
want_left_out = wrong usual polled (wants_read (out_of 0))

abbrev pub mark_not_wanted : Wrong
mark_not_wanted = wrong usual (polled ++ wants_read (in_of 0) ∷ wants_read (out_of 0) ∷ []) (can_write (out_of 0))

abbrev pub read_with_a_wrong_room : Wrong
read_with_a_wrong_room = wrong usual marked (gets (in_of 0) 16383 (104 ∷ 105 ∷ []))

abbrev pub read_without_a_mark : Wrong
read_without_a_mark = wrong usual marked (gets (out_of 0) 16384 (104 ∷ 105 ∷ []))

abbrev pub write_offers_too_little : Wrong
write_offers_too_little = wrong usual ended (takes (out_of 0) 1 (104 ∷ []))

abbrev pub wait_too_long : Wrong
wait_too_long = wrong timeout_in (opened ++ turn 500 ∷ []) (poll_for 501)

-- Of closing

-- one byte of two is still held
abbrev pub writing_ended_early : Wrong
writing_ended_early = wrong usual (ended ++ takes (out_of 0) 2 (104 ∷ []) ∷ []) (ends_writing (out_of 0))

abbrev pub peer_gone_without_cause : Wrong
peer_gone_without_cause = wrong usual got_two (frees (out_of 0) cause.PeerGone 0 0)

-- writing was ended at Out alone
abbrev pub done_too_early : Wrong
done_too_early = wrong usual (ended ++ takes (out_of 0) 2 (104 ∷ 105 ∷ []) ∷ ends_writing (out_of 0) ∷ []) (frees (in_of 0) cause.Done 2 0)

-- In was freed, and two bytes of it wait at Out, which is freed as if it held none
abbrev pub output_of_a_freed_side_dropped : Wrong
output_of_a_freed_side_dropped =
    wrong hook_in
    (marked ++ gets (in_of 0) 16384 (104 ∷ 105 ∷ []) ∷ fires (in_of 0) why.Read
    ∷ turn 2 ∷ poll ∷ wants_read (in_of 0) ∷ wants_both (out_of 0) ∷ can_read (in_of 0) ∷ gets (in_of 0) 16384 (97 ∷ [])
    ∷ fires (in_of 0) why.Read
    ∷ asks (in_of 0) (act.Free (in_of 0)) ask.Ok ∷ frees (in_of 0) cause.Hook 2 0 ∷ [])
    (frees (out_of 0) cause.PeerGone 0 0)

-- Out failed and was freed
abbrev pub freed_twice : Wrong
freed_twice =
    wrong usual
    (got_two ++ turn 2 ∷ poll ∷ wants_read (in_of 0) ∷ wants_both (out_of 0) ∷ can_write (out_of 0) ∷ write_fails (out_of 0) 2
    ∷ frees (out_of 0) cause.Failed 0 0 ∷ [])
    (frees (out_of 0) cause.Failed 0 0)

abbrev pub live_end_closed : Wrong
live_end_closed = wrong usual got_two (closes (in_of 0))

abbrev pub wrong_cause : Wrong
wrong_cause =
    wrong timeout_in (opened ++ turn 500 ∷ poll_for 500 ∷ wants_read (in_of 0) ∷ wants_read (out_of 0) ∷ turn 1000 ∷ poll_for 0
    ∷ wants_read (out_of 0) ∷ [])
    (frees (in_of 0) cause.Failed 0 0)

-- Of hooks

-- the first of three hooks freed the side of the third
abbrev pub fired_on_a_freed_side : Wrong
fired_on_a_freed_side =
    wrong three_hooks
    (turn 0 ∷ poll ∷ opens 0 ∷ opens 1 ∷ opens 2
    ∷ turn 1 ∷ poll ∷ wants_read (in_of 0) ∷ wants_read (out_of 0) ∷ wants_read (in_of 1) ∷ wants_read (out_of 1) ∷ wants_read (in_of 2)
    ∷ wants_read (out_of 2)
    ∷ can_read (in_of 0) ∷ can_read (in_of 1) ∷ can_read (in_of 2)
    ∷ gets (in_of 0) 16384 (97 ∷ []) ∷ gets (in_of 1) 16384 (98 ∷ []) ∷ gets (in_of 2) 16384 (99 ∷ [])
    ∷ fires (in_of 0) why.Read ∷ asks (in_of 0) (act.Free (in_of 2)) ask.Ok ∷ frees (in_of 2) cause.Hook 0 0
    ∷ fires (in_of 1) why.Read ∷ [])
    (fires (in_of 2) why.Read)

-- one byte is left, and the write low mark is 0
abbrev pub write_reason_above_the_low_mark : Wrong
write_reason_above_the_low_mark =
    wrong (record usual { hooks = out_of 0 ∷ [] })
    (got_two ++ turn 2 ∷ poll ∷ wants_read (in_of 0) ∷ wants_both (out_of 0) ∷ can_write (out_of 0)
    ∷ takes (out_of 0) 2 (104 ∷ []) ∷ [])
    (fires (out_of 0) why.Write)

abbrev pub fired_without_a_reason : Wrong
fired_without_a_reason = wrong hook_in got_two (fires (in_of 0) why.Timer)

abbrev fired : Trace
fired = got_two ++ fires (in_of 0) why.Read ∷ []

abbrev pub fire_after_a_stop : Wrong
fire_after_a_stop = wrong hook_in (fired ++ asks (in_of 0) act.Stop ask.Ok ∷ []) (turn 2)

-- a hook asks in the name of its peer
abbrev pub asked_by_another : Wrong
asked_by_another = wrong hook_in fired (asks (out_of 0) act.Stop ask.Ok)

-- the side that is named lives
abbrev pub refused_without_cause : Wrong
refused_without_cause = wrong hook_in fired (asks (in_of 0) (act.Free (out_of 0)) ask.NotLive)

abbrev one_ask : Event
one_ask = asks (in_of 0) (act.Cancel (in_of 0)) ask.Ok

abbrev pub one_ask_too_many : Wrong
one_ask_too_many = wrong hook_in (fired ++ replicate 256 one_ask) one_ask
