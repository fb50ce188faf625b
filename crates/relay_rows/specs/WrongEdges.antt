-- More traces that can stand, each with one event behind it that can't: at the edges of filters, marks, limits and timeouts.
use Rattle.std.specs.Prelude.{ℕ, zero, suc, ◌+◌, ◌^◌, [], ◌∷◌, ◌++◌}
use Rattle.ev_types.specs.declared.why.Cause.TheVariants as cause
use Rattle.ev_types.specs.declared.why.Why.TheVariants as why
use Rattle.ev_types.specs.declared.act.Act.TheVariants as act
use Rattle.ev_types.specs.declared.answer.AskAnswer.TheVariants as ask
use Rattle.token_bucket.specs.declared.limit.Dir.TheVariants as dir
use Rattle.ev_types.specs.Trace.{Trace}
use Rattle.relay_model.specs.Settings.{usual}
use Rattle.relay_model.specs.Due.{event}
use Rattle.relay_rows.specs.RowWords.{in_of, out_of, turn, poll, poll_for, wants_read, wants_write, wants_both, can_read, can_write, opens}
use Rattle.relay_rows.specs.RowWords.{opens_waiting, connects, gets, ends, takes, fires, asks, frees, ends_writing}
use Rattle.relay_rows.specs.FilterRows.{lf_in, held_at_four, five_at_once}
use Rattle.relay_rows.specs.HookRows.{hook_in}
use Rattle.relay_rows.specs.RateRows.{letters, limited_in, one_group}
use Rattle.relay_rows.specs.EdgeRows.{hex_out_held_at_one}
use Rattle.relay_rows.specs.AskRows.{hook_and_timeouts_out, hook_and_low_mark_in}
use Rattle.relay_rows.specs.Wrong.{Wrong, wrong}

abbrev opened : Trace
opened = turn 0 ∷ poll ∷ opens 0 ∷ []

abbrev marked : Trace
marked = opened ++ turn 1 ∷ poll ∷ wants_read (in_of 0) ∷ wants_read (out_of 0) ∷ can_read (in_of 0) ∷ []

-- an end has ended
abbrev pub ended_side_wanted : Wrong
ended_side_wanted = wrong usual (marked ++ ends (in_of 0) 16384 ∷ ends_writing (out_of 0) ∷ turn 2 ∷ poll ∷ []) (wants_read (in_of 0))

-- an end is told to be connected, and is written in the turn behind
abbrev pub written_as_it_connects : Wrong
written_as_it_connects =
    wrong usual
    (turn 0 ∷ poll ∷ opens_waiting 0 ∷ turn 1 ∷ poll ∷ wants_read (in_of 0) ∷ wants_write (out_of 0) ∷ can_read (in_of 0)
    ∷ gets (in_of 0) 16384 (97 ∷ [])
    ∷ turn 2 ∷ poll ∷ wants_read (in_of 0) ∷ wants_write (out_of 0) ∷ can_write (out_of 0) ∷ connects (out_of 0) ∷ [])
    (takes (out_of 0) 1 (97 ∷ []))

-- nothing is held for Out, but it isn't connected yet
abbrev pub writing_ended_while_connecting : Wrong
writing_ended_while_connecting =
    wrong usual
    (turn 0 ∷ poll ∷ opens_waiting 0 ∷ turn 1 ∷ poll ∷ wants_read (in_of 0) ∷ wants_write (out_of 0) ∷ can_read (in_of 0)
    ∷ ends (in_of 0) 16384 ∷ [])
    (ends_writing (out_of 0))

-- the CR that was held waits for Out to take it
abbrev pub held_byte_forgotten : Wrong
held_byte_forgotten =
    wrong lf_in (marked ++ gets (in_of 0) 16384 (13 ∷ []) ∷ turn 2 ∷ poll ∷ wants_read (in_of 0) ∷ wants_read (out_of 0)
    ∷ can_read (in_of 0) ∷ ends (in_of 0) 16384 ∷ [])
    (ends_writing (out_of 0))

-- a CR at the end of what was read is no byte for Out yet
abbrev pub held_byte_given : Wrong
held_byte_given =
    wrong lf_in (marked ++ gets (in_of 0) 16384 (97 ∷ 13 ∷ []) ∷ turn 2 ∷ poll ∷ wants_read (in_of 0) ∷ wants_both (out_of 0)
    ∷ can_write (out_of 0) ∷ [])
    (takes (out_of 0) 2 (97 ∷ 13 ∷ []))

-- the filter has no room, and doesn't look at the bad byte
abbrev pub bad_byte_met_without_room : Wrong
bad_byte_met_without_room =
    wrong hex_out_held_at_one (marked ++ gets (in_of 0) 16384 (51 ∷ 52 ∷ 122 ∷ 122 ∷ []) ∷ []) (frees (out_of 0) (cause.Filter 2) 0 0)

-- three bytes of four are left, and the direction is held
abbrev pub filled_above_half : Wrong
filled_above_half =
    wrong held_at_four
    (marked ++ gets (in_of 0) 16384 (48 ∷ 49 ∷ 50 ∷ 51 ∷ 52 ∷ []) ∷ turn 2 ∷ poll ∷ wants_read (in_of 0) ∷ wants_both (out_of 0)
    ∷ can_write (out_of 0) ∷ takes (out_of 0) 4 (48 ∷ [])
    ∷ turn 3 ∷ poll ∷ wants_read (in_of 0) ∷ wants_both (out_of 0) ∷ can_write (out_of 0) ∷ [])
    (takes (out_of 0) 4 (49 ∷ []))

-- five bytes stand at In
abbrev pub wanted_at_the_read_mark : Wrong
wanted_at_the_read_mark =
    wrong five_at_once
    (marked ++ gets (in_of 0) 5 (letters 5) ∷ turn 2 ∷ poll ∷ wants_read (in_of 0) ∷ wants_both (out_of 0) ∷ can_read (in_of 0)
    ∷ gets (in_of 0) 5 (letters 5)
    ∷ turn 3 ∷ poll ∷ [])
    (wants_read (in_of 0))

-- the bucket holds nothing until the next tick
abbrev pub wanted_with_an_empty_bucket : Wrong
wanted_with_an_empty_bucket =
    wrong limited_in (marked ++ gets (in_of 0) 10 (letters 10) ∷ turn 500 ∷ poll_for 500 ∷ []) (wants_read (in_of 0))

-- two members have overdrawn the bucket of the three
abbrev pub read_while_suspended : Wrong
read_while_suspended =
    wrong one_group
    (turn 0 ∷ poll ∷ opens 0 ∷ opens 1 ∷ opens 2
    ∷ turn 0 ∷ poll ∷ wants_read (in_of 0) ∷ wants_read (out_of 0) ∷ wants_read (in_of 1) ∷ wants_read (out_of 1) ∷ wants_read (in_of 2)
    ∷ wants_read (out_of 2)
    ∷ can_read (in_of 0) ∷ can_read (in_of 1) ∷ can_read (in_of 2) ∷ gets (in_of 0) 64 (letters 64) ∷ gets (in_of 1) 64 (letters 64) ∷ [])
    (gets (in_of 2) 64 (letters 64))

abbrev pub fired_below_the_low_mark : Wrong
fired_below_the_low_mark = wrong hook_and_low_mark_in (marked ++ gets (in_of 0) 16384 (97 ∷ []) ∷ []) (fires (in_of 0) why.Read)

-- both timeouts of Out have passed
abbrev pub timeouts_told_apart : Wrong
timeouts_told_apart =
    wrong hook_and_timeouts_out
    (opened ++ turn 1 ∷ poll_for 999 ∷ wants_read (in_of 0) ∷ wants_read (out_of 0) ∷ can_read (in_of 0)
    ∷ gets (in_of 0) 16384 (104 ∷ 105 ∷ [])
    ∷ turn 1001 ∷ poll_for 0 ∷ wants_read (in_of 0) ∷ [])
    (fires (out_of 0) (event 65))

-- what becomes due while hooks run waits for the next turn
abbrev pub fired_in_the_turn_of_its_ask : Wrong
fired_in_the_turn_of_its_ask =
    wrong hook_in (marked ++ gets (in_of 0) 16384 (97 ∷ []) ∷ fires (in_of 0) why.Read
    ∷ asks (in_of 0) (act.Trigger (in_of 0) dir.Read) ask.Ok ∷ [])
    (fires (in_of 0) why.Read)

-- the links from number k on, in one turn
abbrev opens_from : ℕ → ℕ → Trace
opens_from k zero = []
opens_from k (suc n) = opens k ∷ opens_from (k + 1) n

abbrev pub link_past_the_64th : Wrong
link_past_the_64th = wrong usual (turn 0 ∷ poll ∷ opens_from 0 64) (opens 64)

abbrev pub link_past_the_last : Wrong
link_past_the_last = wrong (record usual { links = 1 }) opened (opens 1)

abbrev pub time_past_the_last : Wrong
time_past_the_last = wrong usual (turn (2 ^ 62) ∷ poll ∷ []) (turn (2 ^ 62 + 1))

abbrev pub nothing_got : Wrong
nothing_got = wrong usual marked (gets (in_of 0) 16384 [])

abbrev pub more_than_the_room : Wrong
more_than_the_room = wrong limited_in marked (gets (in_of 0) 10 (letters 11))
