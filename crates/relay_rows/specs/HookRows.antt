-- Worked runs with hooks and timeouts. Each line was worked out by hand from the rules.
use Rattle.std.specs.Prelude.{[], ◌∷◌}
use Rattle.ev_types.specs.declared.filter.FilterKind.TheVariants as kind
use Rattle.ev_types.specs.declared.act.Act.TheVariants as act
use Rattle.ev_types.specs.declared.answer.AskAnswer.TheVariants as ask
use Rattle.ev_types.specs.declared.why.Cause.TheVariants as cause
use Rattle.ev_types.specs.declared.why.Why.TheVariants as why
use Rattle.ev_types.specs.Trace.{Trace}
use Rattle.relay_model.specs.Settings.{Settings, usual}
use Rattle.relay_rows.specs.RowWords.{in_of, out_of, turn, poll, poll_for, wants_read, wants_both, can_read, opens, gets, fires, asks}
use Rattle.relay_rows.specs.RowWords.{frees, closes}

abbrev pub hook_in : Settings
hook_in = record usual { hooks = in_of 0 ∷ [] }

abbrev pub hook_and_lf_in : Settings
hook_and_lf_in = record usual { in_read = kind.ToLf; hooks = in_of 0 ∷ [] }

-- A hook frees its side while a CR is held. The CR is never given, and the turns behind want nothing.
abbrev pub held_byte_dropped : Trace
held_byte_dropped =
    turn 0 ∷ poll ∷ opens 0
    ∷ turn 1 ∷ poll ∷ wants_read (in_of 0) ∷ wants_read (out_of 0) ∷ can_read (in_of 0) ∷ gets (in_of 0) 16384 (13 ∷ [])
    ∷ fires (in_of 0) why.Read ∷ asks (in_of 0) (act.Free (in_of 0)) ask.Ok ∷ frees (in_of 0) cause.Hook 0 0
    ∷ frees (out_of 0) cause.PeerGone 0 0 ∷ closes (in_of 0) ∷ closes (out_of 0)
    ∷ turn 2 ∷ poll
    ∷ turn 3 ∷ poll
    ∷ []

abbrev pub three_hooks : Settings
three_hooks = record usual { hooks = in_of 0 ∷ in_of 1 ∷ in_of 2 ∷ [] }

-- The first of three hooks frees its own side and that of the third, whose reason isn't fired any more.
abbrev pub frees_another_link : Trace
frees_another_link =
    turn 0 ∷ poll ∷ opens 0 ∷ opens 1 ∷ opens 2
    ∷ turn 1 ∷ poll ∷ wants_read (in_of 0) ∷ wants_read (out_of 0) ∷ wants_read (in_of 1) ∷ wants_read (out_of 1) ∷ wants_read (in_of 2)
    ∷ wants_read (out_of 2)
    ∷ can_read (in_of 0) ∷ can_read (in_of 1) ∷ can_read (in_of 2)
    ∷ gets (in_of 0) 16384 (97 ∷ []) ∷ gets (in_of 1) 16384 (98 ∷ []) ∷ gets (in_of 2) 16384 (99 ∷ [])
    ∷ fires (in_of 0) why.Read
    ∷ asks (in_of 0) (act.Free (in_of 0)) ask.Ok ∷ frees (in_of 0) cause.Hook 0 0
    ∷ asks (in_of 0) (act.Free (in_of 2)) ask.Ok ∷ frees (in_of 2) cause.Hook 0 0
    ∷ fires (in_of 1) why.Read
    ∷ frees (out_of 0) cause.PeerGone 0 0 ∷ closes (in_of 0) ∷ closes (out_of 0)
    ∷ frees (out_of 2) cause.PeerGone 0 0 ∷ closes (in_of 2) ∷ closes (out_of 2)
    ∷ []

-- A hook frees its peer twice: the second ask is refused. The bytes that were read are never moved.
abbrev pub frees_the_peer_twice : Trace
frees_the_peer_twice =
    turn 0 ∷ poll ∷ opens 0
    ∷ turn 1 ∷ poll ∷ wants_read (in_of 0) ∷ wants_read (out_of 0) ∷ can_read (in_of 0) ∷ gets (in_of 0) 16384 (104 ∷ 105 ∷ [])
    ∷ fires (in_of 0) why.Read ∷ asks (in_of 0) (act.Free (out_of 0)) ask.Ok ∷ frees (out_of 0) cause.Hook 0 0
    ∷ asks (in_of 0) (act.Free (out_of 0)) ask.NotLive
    ∷ frees (in_of 0) cause.PeerGone 0 0 ∷ closes (in_of 0) ∷ closes (out_of 0)
    ∷ []

abbrev pub timeout_in : Settings
timeout_in = record usual { in_timeouts = record { read_ms = 1000; write_ms = 0 } }

-- In reads nothing for a second, and its side is freed.
abbrev pub read_timeout : Trace
read_timeout =
    turn 0 ∷ poll ∷ opens 0
    ∷ turn 500 ∷ poll_for 500 ∷ wants_read (in_of 0) ∷ wants_read (out_of 0)
    ∷ turn 1000 ∷ poll_for 0 ∷ wants_read (out_of 0)
    ∷ frees (in_of 0) cause.Timeout 0 0 ∷ frees (out_of 0) cause.PeerGone 0 0 ∷ closes (in_of 0) ∷ closes (out_of 0)
    ∷ []

-- A hook sets a timer of a tenth of a second, which becomes a reason when it has passed.
abbrev pub timer_fires : Trace
timer_fires =
    turn 0 ∷ poll ∷ opens 0
    ∷ turn 10 ∷ poll ∷ wants_read (in_of 0) ∷ wants_read (out_of 0) ∷ can_read (in_of 0) ∷ gets (in_of 0) 16384 (97 ∷ [])
    ∷ fires (in_of 0) why.Read ∷ asks (in_of 0) (act.Timer (in_of 0) 100) ask.Ok
    ∷ turn 50 ∷ poll_for 60 ∷ wants_read (in_of 0) ∷ wants_both (out_of 0)
    ∷ turn 110 ∷ poll_for 0 ∷ wants_read (in_of 0) ∷ wants_both (out_of 0) ∷ fires (in_of 0) why.Timer
    ∷ []

-- A hook asks the run to end.
abbrev pub hook_stops : Trace
hook_stops =
    turn 0 ∷ poll ∷ opens 0
    ∷ turn 1 ∷ poll ∷ wants_read (in_of 0) ∷ wants_read (out_of 0) ∷ can_read (in_of 0) ∷ gets (in_of 0) 16384 (97 ∷ [])
    ∷ fires (in_of 0) why.Read ∷ asks (in_of 0) act.Stop ask.Ok
    ∷ []

-- A byte that comes is activity: the timeout runs from then on.
abbrev pub reading_is_activity : Trace
reading_is_activity =
    turn 0 ∷ poll ∷ opens 0
    ∷ turn 500 ∷ poll_for 500 ∷ wants_read (in_of 0) ∷ wants_read (out_of 0) ∷ can_read (in_of 0) ∷ gets (in_of 0) 16384 (97 ∷ [])
    ∷ turn 600 ∷ poll_for 900 ∷ wants_read (in_of 0) ∷ wants_both (out_of 0)
    ∷ []
