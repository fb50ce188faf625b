-- Runs in which hooks set marks, and enable or disable what they were told of. Each line was worked out by hand from the
-- rules.
use Rattle.std.specs.Prelude.{[], ◌∷◌}
use Rattle.token_bucket.specs.declared.limit.Dir.TheVariants as dir
use Rattle.ev_types.specs.declared.act.Act.TheVariants as act
use Rattle.ev_types.specs.declared.answer.AskAnswer.TheVariants as ask
use Rattle.ev_types.specs.declared.why.Why.TheVariants as why
use Rattle.ev_types.specs.Trace.{Trace}
use Rattle.relay_model.specs.Settings.{Settings, usual}
use Rattle.relay_model.specs.Due.{event}
use Rattle.relay_rows.specs.RowWords.{in_of, out_of, turn, poll, poll_for, wants_read, wants_both, can_read, can_write, opens, gets, ends}
use Rattle.relay_rows.specs.RowWords.{takes, fires, asks, ends_writing}

-- A hook sets both read marks of its side, 2 and 5, and the hold mark of the other, 3. One byte at In tells nothing, the
-- room is what is left below 5, and the direction is held until one byte or none is left of three.
abbrev pub marks_asked_for : Trace
marks_asked_for =
    turn 0 ∷ poll ∷ opens 0
    ∷ turn 1 ∷ poll ∷ wants_read (in_of 0) ∷ wants_read (out_of 0) ∷ can_read (in_of 0) ∷ gets (in_of 0) 16384 (97 ∷ [])
    ∷ fires (in_of 0) why.Read
    ∷ asks (in_of 0) (act.Marks (in_of 0) dir.Read 2 5) ask.Ok ∷ asks (in_of 0) (act.Marks (out_of 0) dir.Write 0 3) ask.Ok
    ∷ turn 2 ∷ poll ∷ wants_read (in_of 0) ∷ wants_both (out_of 0) ∷ can_read (in_of 0)
    ∷ gets (in_of 0) 5 (98 ∷ 99 ∷ 100 ∷ 101 ∷ 102 ∷ []) ∷ fires (in_of 0) why.Read
    ∷ turn 3 ∷ poll ∷ wants_read (in_of 0) ∷ wants_both (out_of 0) ∷ can_read (in_of 0) ∷ can_write (out_of 0)
    ∷ gets (in_of 0) 5 (103 ∷ []) ∷ takes (out_of 0) 3 (97 ∷ [])
    ∷ turn 4 ∷ poll ∷ wants_read (in_of 0) ∷ wants_both (out_of 0) ∷ can_write (out_of 0) ∷ takes (out_of 0) 2 (98 ∷ [])
    ∷ turn 5 ∷ poll ∷ wants_read (in_of 0) ∷ wants_both (out_of 0) ∷ can_read (in_of 0) ∷ gets (in_of 0) 4 (104 ∷ [])
    ∷ fires (in_of 0) why.Read
    ∷ []

abbrev pub hook_and_low_mark_out : Settings
hook_and_low_mark_out =
    record usual { hooks = out_of 0 ∷ []; out_marks = record { read_low = 0; read_high = 0; write_low = 1; write_high = 0 } }

-- The write reason comes where one byte is left, and not where two are.
abbrev pub write_low_mark_reached : Trace
write_low_mark_reached =
    turn 0 ∷ poll ∷ opens 0
    ∷ turn 1 ∷ poll ∷ wants_read (in_of 0) ∷ wants_read (out_of 0) ∷ can_read (in_of 0) ∷ gets (in_of 0) 16384 (97 ∷ 98 ∷ 99 ∷ [])
    ∷ turn 2 ∷ poll ∷ wants_read (in_of 0) ∷ wants_both (out_of 0) ∷ can_write (out_of 0) ∷ takes (out_of 0) 3 (97 ∷ [])
    ∷ turn 3 ∷ poll ∷ wants_read (in_of 0) ∷ wants_both (out_of 0) ∷ can_write (out_of 0) ∷ takes (out_of 0) 2 (98 ∷ [])
    ∷ fires (out_of 0) why.Write
    ∷ []

abbrev pub hooks_of_two_links : Settings
hooks_of_two_links = record usual { hooks = in_of 0 ∷ in_of 1 ∷ [] }

-- Two timers pass in one turn. The earlier deadline comes first.
abbrev pub timers_in_order : Trace
timers_in_order =
    turn 0 ∷ poll ∷ opens 0 ∷ opens 1
    ∷ turn 1 ∷ poll ∷ wants_read (in_of 0) ∷ wants_read (out_of 0) ∷ wants_read (in_of 1) ∷ wants_read (out_of 1) ∷ can_read (in_of 0)
    ∷ can_read (in_of 1)
    ∷ gets (in_of 0) 16384 (97 ∷ []) ∷ gets (in_of 1) 16384 (98 ∷ [])
    ∷ fires (in_of 0) why.Read ∷ asks (in_of 0) (act.Timer (in_of 0) 20) ask.Ok ∷ fires (in_of 1) why.Read
    ∷ asks (in_of 1) (act.Timer (in_of 1) 10) ask.Ok
    ∷ turn 30 ∷ poll_for 0 ∷ wants_read (in_of 0) ∷ wants_both (out_of 0) ∷ wants_read (in_of 1) ∷ wants_both (out_of 1)
    ∷ fires (in_of 1) why.Timer ∷ fires (in_of 0) why.Timer
    ∷ []

abbrev pub hook_at_in : Settings
hook_at_in = record usual { hooks = in_of 0 ∷ [] }

-- An end that has ended isn't wanted again, though it is enabled.
abbrev pub enabled_behind_the_end : Trace
enabled_behind_the_end =
    turn 0 ∷ poll ∷ opens 0
    ∷ turn 1 ∷ poll ∷ wants_read (in_of 0) ∷ wants_read (out_of 0) ∷ can_read (in_of 0) ∷ ends (in_of 0) 16384
    ∷ fires (in_of 0) (event 17) ∷ asks (in_of 0) (act.Enable (in_of 0) dir.Read) ask.Ok ∷ ends_writing (out_of 0)
    ∷ turn 2 ∷ poll ∷ wants_read (out_of 0)
    ∷ []

-- An end that is disabled for reading isn't wanted.
abbrev pub reading_disabled : Trace
reading_disabled =
    turn 0 ∷ poll ∷ opens 0
    ∷ turn 1 ∷ poll ∷ wants_read (in_of 0) ∷ wants_read (out_of 0) ∷ can_read (in_of 0) ∷ gets (in_of 0) 16384 (97 ∷ [])
    ∷ fires (in_of 0) why.Read ∷ asks (in_of 0) (act.Disable (in_of 0) dir.Read) ask.Ok
    ∷ turn 2 ∷ poll ∷ wants_both (out_of 0)
    ∷ []
