-- Runs in which reasons stand in order, timers and timeouts are set by hooks, and limits and groups change. Each line was
-- worked out by hand from the rules.
use Rattle.std.specs.Prelude.{[], ◌∷◌, Some, None}
use Rattle.token_bucket.specs.declared.limit.Dir.TheVariants as dir
use Rattle.ev_types.specs.declared.act.Act.TheVariants as act
use Rattle.ev_types.specs.declared.answer.AskAnswer.TheVariants as ask
use Rattle.ev_types.specs.declared.why.Cause.TheVariants as cause
use Rattle.ev_types.specs.declared.why.Why.TheVariants as why
use Rattle.ev_types.specs.Trace.{Trace}
use Rattle.relay_model.specs.Settings.{Settings, usual}
use Rattle.relay_rows.specs.RowWords.{in_of, out_of, turn, poll, poll_for, wants_read, wants_both, can_read, can_both, opens, gets, takes}
use Rattle.relay_rows.specs.RowWords.{fires, asks, frees, closes}
use Rattle.relay_rows.specs.RateRows.{letters, ten_a_second, hundred_a_second}

abbrev pub hook_out : Settings
hook_out = record usual { hooks = out_of 0 ∷ [] }

-- A timer becomes due first, and a read and a write reason join it. The timer is fired last.
abbrev pub reasons_in_order : Trace
reasons_in_order =
    turn 0 ∷ poll ∷ opens 0
    ∷ turn 1 ∷ poll ∷ wants_read (in_of 0) ∷ wants_read (out_of 0) ∷ can_read (in_of 0) ∷ can_read (out_of 0)
    ∷ gets (in_of 0) 16384 (97 ∷ []) ∷ gets (out_of 0) 16384 (98 ∷ []) ∷ fires (out_of 0) why.Read
    ∷ asks (out_of 0) (act.Timer (out_of 0) 9) ask.Ok
    ∷ turn 10 ∷ poll_for 0 ∷ wants_both (in_of 0) ∷ wants_both (out_of 0) ∷ can_both (out_of 0)
    ∷ gets (out_of 0) 16384 (99 ∷ []) ∷ takes (out_of 0) 1 (97 ∷ []) ∷ fires (out_of 0) why.Read ∷ fires (out_of 0) why.Write
    ∷ fires (out_of 0) why.Timer
    ∷ []

abbrev pub two_links : Settings
two_links = record usual { hooks = in_of 0 ∷ in_of 1 ∷ [] }

-- A timer of the second link became due before the first link was read: its side comes first, with all its reasons.
abbrev pub first_due_first_fired : Trace
first_due_first_fired =
    turn 0 ∷ poll ∷ opens 0 ∷ opens 1
    ∷ turn 1 ∷ poll ∷ wants_read (in_of 0) ∷ wants_read (out_of 0) ∷ wants_read (in_of 1) ∷ wants_read (out_of 1) ∷ can_read (in_of 1)
    ∷ gets (in_of 1) 16384 (97 ∷ []) ∷ fires (in_of 1) why.Read ∷ asks (in_of 1) (act.Timer (in_of 1) 9) ask.Ok
    ∷ turn 10 ∷ poll_for 0 ∷ wants_read (in_of 0) ∷ wants_read (out_of 0) ∷ wants_read (in_of 1) ∷ wants_both (out_of 1)
    ∷ can_read (in_of 0) ∷ can_read (in_of 1)
    ∷ gets (in_of 0) 16384 (98 ∷ []) ∷ gets (in_of 1) 16384 (99 ∷ []) ∷ fires (in_of 1) why.Read ∷ fires (in_of 1) why.Timer
    ∷ fires (in_of 0) why.Read
    ∷ []

-- The hook of the second link stops the run. What it asks in the same fire is done still, and a link whose side it frees isn't closed.
abbrev pub asks_behind_a_stop : Trace
asks_behind_a_stop =
    turn 0 ∷ poll ∷ opens 0 ∷ opens 1
    ∷ turn 1 ∷ poll ∷ wants_read (in_of 0) ∷ wants_read (out_of 0) ∷ wants_read (in_of 1) ∷ wants_read (out_of 1) ∷ can_read (in_of 0)
    ∷ can_read (in_of 1)
    ∷ gets (in_of 0) 16384 (97 ∷ []) ∷ gets (in_of 1) 16384 (98 ∷ []) ∷ fires (in_of 0) why.Read ∷ fires (in_of 1) why.Read
    ∷ asks (in_of 1) act.Stop ask.Ok ∷ asks (in_of 1) (act.Free (in_of 1)) ask.Ok ∷ frees (in_of 1) cause.Hook 0 0
    ∷ asks (in_of 1) act.Stop ask.Ok
    ∷ []

-- What is due for a side, and its timer, go with the side.
abbrev pub forgotten_with_the_side : Trace
forgotten_with_the_side =
    turn 0 ∷ poll ∷ opens 0
    ∷ turn 1 ∷ poll ∷ wants_read (in_of 0) ∷ wants_read (out_of 0) ∷ can_read (in_of 0) ∷ gets (in_of 0) 16384 (97 ∷ [])
    ∷ fires (in_of 0) why.Read
    ∷ asks (in_of 0) (act.Trigger (in_of 0) dir.Read) ask.Ok ∷ asks (in_of 0) (act.Timer (in_of 0) 5) ask.Ok
    ∷ asks (in_of 0) (act.Free (in_of 0)) ask.Ok ∷ frees (in_of 0) cause.Hook 0 0
    ∷ frees (out_of 0) cause.PeerGone 0 0 ∷ closes (in_of 0) ∷ closes (out_of 0)
    ∷ turn 2 ∷ poll
    ∷ turn 10 ∷ poll
    ∷ []

-- A second timer takes the place of the first, and is cancelled.
abbrev pub timer_replaced_and_cancelled : Trace
timer_replaced_and_cancelled =
    turn 0 ∷ poll ∷ opens 0
    ∷ turn 1 ∷ poll ∷ wants_read (in_of 0) ∷ wants_read (out_of 0) ∷ can_read (in_of 0) ∷ gets (in_of 0) 16384 (97 ∷ [])
    ∷ fires (in_of 0) why.Read ∷ asks (in_of 0) (act.Timer (in_of 0) 20) ask.Ok ∷ asks (in_of 0) (act.Timer (in_of 0) 50) ask.Ok
    ∷ turn 2 ∷ poll_for 49 ∷ wants_read (in_of 0) ∷ wants_both (out_of 0) ∷ can_read (in_of 0) ∷ gets (in_of 0) 16384 (98 ∷ [])
    ∷ fires (in_of 0) why.Read ∷ asks (in_of 0) (act.Cancel (in_of 0)) ask.Ok
    ∷ turn 60 ∷ poll ∷ wants_read (in_of 0) ∷ wants_both (out_of 0)
    ∷ []

-- Timeouts that a hook sets run from then on: a write timeout of the peer that ends at 1110, and a read timeout that does.
abbrev pub timeout_asked_for : Trace
timeout_asked_for =
    turn 0 ∷ poll ∷ opens 0
    ∷ turn 10 ∷ poll ∷ wants_read (in_of 0) ∷ wants_read (out_of 0) ∷ can_read (in_of 0) ∷ gets (in_of 0) 16384 (97 ∷ [])
    ∷ fires (in_of 0) why.Read ∷ asks (in_of 0) (act.Timer (in_of 0) 100) ask.Ok ∷ asks (in_of 0) (act.Timeouts (out_of 0) 0 1100) ask.Ok
    ∷ turn 110 ∷ poll_for 0 ∷ wants_read (in_of 0) ∷ wants_both (out_of 0) ∷ fires (in_of 0) why.Timer
    ∷ asks (in_of 0) (act.Timeouts (in_of 0) 1000 0) ask.Ok
    ∷ turn 200 ∷ poll_for 910 ∷ wants_read (in_of 0) ∷ wants_both (out_of 0)
    ∷ []

abbrev pub hook_and_group : Settings
hook_and_group = record usual { groups = record { cfg = hundred_a_second; share = 64 } ∷ []; hooks = in_of 0 ∷ [] }

-- A side joins a group of which it is the only member, and leaves it. What it moved before doesn't count there.
abbrev pub group_joined_and_left : Trace
group_joined_and_left =
    turn 0 ∷ poll ∷ opens 0
    ∷ turn 1 ∷ poll ∷ wants_read (in_of 0) ∷ wants_read (out_of 0) ∷ can_read (in_of 0) ∷ gets (in_of 0) 16384 (97 ∷ [])
    ∷ fires (in_of 0) why.Read ∷ asks (in_of 0) (act.Join (in_of 0) 0) ask.Ok
    ∷ turn 2 ∷ poll ∷ wants_read (in_of 0) ∷ wants_both (out_of 0) ∷ can_read (in_of 0) ∷ gets (in_of 0) 100 (letters 30)
    ∷ fires (in_of 0) why.Read
    ∷ turn 3 ∷ poll ∷ wants_read (in_of 0) ∷ wants_both (out_of 0) ∷ can_read (in_of 0) ∷ gets (in_of 0) 70 (letters 2)
    ∷ fires (in_of 0) why.Read ∷ asks (in_of 0) (act.Leave (in_of 0)) ask.Ok
    ∷ turn 4 ∷ poll ∷ wants_read (in_of 0) ∷ wants_both (out_of 0) ∷ can_read (in_of 0) ∷ gets (in_of 0) 16384 (letters 1)
    ∷ fires (in_of 0) why.Read
    ∷ []

abbrev pub hook_of_a_member : Settings
hook_of_a_member = record usual { groups = record { cfg = hundred_a_second; share = 64 } ∷ []; in_group = Some 0; hooks = in_of 0 ∷ [] }

-- The only member uses up the bucket and leaves. No poll waits for a group without members.
abbrev pub suspended_without_members : Trace
suspended_without_members =
    turn 0 ∷ poll ∷ opens 0
    ∷ turn 1 ∷ poll ∷ wants_read (in_of 0) ∷ wants_read (out_of 0) ∷ can_read (in_of 0) ∷ gets (in_of 0) 100 (letters 100)
    ∷ fires (in_of 0) why.Read ∷ asks (in_of 0) (act.Leave (in_of 0)) ask.Ok
    ∷ turn 2 ∷ poll ∷ wants_read (in_of 0) ∷ wants_both (out_of 0)
    ∷ []

abbrev pub hook_and_limit : Settings
hook_and_limit = record usual { in_rate = Some hundred_a_second; hooks = in_of 0 ∷ [] }

-- 97 bytes are left where a limit with a burst of 25 takes the place of another, and 25 of them stay, also as the first limit
-- comes back at once. Then the limit is removed, and one that is set behind that begins with its rate.
abbrev pub limit_changed : Trace
limit_changed =
    turn 0 ∷ poll ∷ opens 0
    ∷ turn 1 ∷ poll ∷ wants_read (in_of 0) ∷ wants_read (out_of 0) ∷ can_read (in_of 0) ∷ gets (in_of 0) 100 (letters 3)
    ∷ fires (in_of 0) why.Read ∷ asks (in_of 0) (act.Rate (in_of 0) (Some ten_a_second)) ask.Ok
    ∷ asks (in_of 0) (act.Rate (in_of 0) (Some hundred_a_second)) ask.Ok
    ∷ turn 2 ∷ poll ∷ wants_read (in_of 0) ∷ wants_both (out_of 0) ∷ can_read (in_of 0) ∷ gets (in_of 0) 25 (letters 5)
    ∷ fires (in_of 0) why.Read ∷ asks (in_of 0) (act.Rate (in_of 0) None) ask.Ok
    ∷ turn 3 ∷ poll ∷ wants_read (in_of 0) ∷ wants_both (out_of 0) ∷ can_read (in_of 0) ∷ gets (in_of 0) 16384 (letters 1)
    ∷ fires (in_of 0) why.Read ∷ asks (in_of 0) (act.Rate (in_of 0) (Some ten_a_second)) ask.Ok
    ∷ turn 4 ∷ poll ∷ wants_read (in_of 0) ∷ wants_both (out_of 0) ∷ can_read (in_of 0) ∷ gets (in_of 0) 10 (letters 4)
    ∷ fires (in_of 0) why.Read
    ∷ []
