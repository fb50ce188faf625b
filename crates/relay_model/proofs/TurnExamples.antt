-- The definitions of the turn at known values.
use Rattle.std.specs.Prelude.{◌≡◌, ℕ, ◌+◌, ◌^◌, true, false, List, [], ◌∷◌, refl, Option, Some, None, length}
use Rattle.std.proofs.Common.{arith}
use Rattle.token_bucket.specs.declared.limit.Dir.TheVariants as dir
use Rattle.token_bucket.specs.declared.limit.LimitCfg.{LimitCfg}
use Rattle.ev_types.specs.declared.side.Side.TheVariants.{In, Out}
use Rattle.ev_types.specs.declared.side.SideId.{SideId}
use Rattle.ev_types.specs.declared.why.Why.TheVariants as why
use Rattle.ev_types.specs.declared.why.WhyKind.TheVariants as kind
use Rattle.ev_types.specs.declared.why.Cause.TheVariants as cause
use Rattle.ev_types.specs.declared.act.Act.{Act}
use Rattle.ev_types.specs.declared.act.Act.TheVariants as act
use Rattle.ev_types.specs.declared.answer.AskAnswer.{AskAnswer}
use Rattle.ev_types.specs.declared.answer.AskAnswer.TheVariants as ask
use Rattle.ev_types.specs.declared.answer.ReadAnswer.TheVariants as read
use Rattle.ev_types.specs.declared.answer.WriteAnswer.TheVariants as write
use Rattle.ev_types.specs.declared.entry.Entry.TheVariants as entry
use Rattle.relay_model.specs.Settings.{Settings, usual, GroupSet}
use Rattle.relay_model.specs.Due.{Due, with_reason, batch, event}
use Rattle.relay_model.specs.Plain.{placed, Plain, Timer, nothing_yet, with_link, flow_at, freed}
use Rattle.relay_model.specs.Rates.{level}
use Rattle.token_bucket.specs.Spells.{Spell}
use Rattle.token_bucket.specs.Levels.{Limit}
use Rattle.relay_model.specs.Groups.{share_among, group_level}
use Rattle.relay_model.specs.Past.{Past, past}
use Rattle.relay_model.specs.Rooms.{read_room, write_room, wanted}
use Rattle.relay_model.specs.Asks.{refusal, done}
use Rattle.ev_types.specs.declared.plan_line.PlanLine.{PlanLine}
use Rattle.relay_model.specs.Plans.{acts_behind}
use Rattle.relay_model.specs.Moments.{poll_timeout, time_passed}
use Rattle.relay_model.specs.Round.{round}
use Rattle.relay_model.specs.Serve.{after_got, after_write}
use Rattle.relay_model.specs.Close.{CloseStep, closing_entry}
use Rattle.relay_model.specs.Turn.{turned_to}

abbrev in_of : ℕ → SideId
in_of k = record { link = k; side = In }

abbrev out_of : ℕ → SideId
out_of k = record { link = k; side = Out }

-- reasons of one side join, and stand where the first of them became due
abbrev pending : List Due
pending = with_reason (in_of 0) (event 17)
    (with_reason (in_of 1) why.Read (with_reason (in_of 0) (event 65) (with_reason (in_of 0) why.Timer [])))

batch-joined : batch pending ≡ (in_of 0, event 81) ∷ (in_of 0, why.Timer) ∷ (in_of 1, why.Read) ∷ []
batch-joined = refl

opened-two : length (with_link usual true (with_link usual false nothing_yet)).sides ≡ 4
opened-two = refl

-- a read limit of 10 a tick, with at most 25 at once, and ticks of a second
abbrev slow : Limit
slow = record { rate = 10; burst = 25; tick = 1000 }

abbrev spell : ℕ → ℕ → Spell
spell time moved = record { time = time; moved = moved }

bucket-begins_with_the_rate : level slow 0 10 (spell 0 0 ∷ []) 0 ≡ 10
bucket-begins_with_the_rate = refl

bucket-spent_within_a_tick : level slow 0 10 (spell 0 10 ∷ spell 500 0 ∷ []) 500 ≡ 0
bucket-spent_within_a_tick = refl

bucket-gains_at_a_tick : level slow 0 10 (spell 0 10 ∷ spell 500 0 ∷ spell 1000 0 ∷ []) 1000 ≡ 10
bucket-gains_at_a_tick = refl

bucket-gains_up_to_the_burst : level slow 0 10 (spell 0 10 ∷ spell 500 0 ∷ spell 1000 10 ∷ spell 5000 0 ∷ []) 5000 ≡ 25
bucket-gains_up_to_the_burst = refl

-- a group of three members with 100 a tick
abbrev pool_cfg : LimitCfg
pool_cfg = record {
  read_rate = 100;
  read_burst = 100;
  write_rate = 100;
  write_burst = 100;
  tick_ms = 1000;
  reads = omega arith;
  read_within = omega arith;
  writes = omega arith;
  write_within = omega arith;
  read_burst_within = omega arith;
  write_burst_within = omega arith;
  ticks = omega arith;
  tick_within = omega arith;
}

abbrev pool : GroupSet
pool = record { cfg = pool_cfg; share = 64 }

group-first_member : share_among pool dir.Read (spell 0 0 ∷ spell 0 0 ∷ []) 0 3 ≡ 64
group-first_member = refl

group-second_member : share_among pool dir.Read (spell 0 0 ∷ spell 0 64 ∷ []) 0 3 ≡ 64
group-second_member = refl

group-overdrawn : share_among pool dir.Read (spell 0 0 ∷ spell 0 128 ∷ []) 0 3 ≡ 0
group-overdrawn = refl

group-resumes : share_among pool dir.Read (spell 0 0 ∷ spell 0 128 ∷ spell 1000 0 ∷ []) 1000 3 ≡ 64
group-resumes = refl

group-level_resumed : group_level pool dir.Read (spell 0 0 ∷ spell 0 128 ∷ spell 1000 0 ∷ []) 1000 ≡ 72
group-level_resumed = refl

group-used_up : share_among pool dir.Read (spell 0 0 ∷ spell 0 128 ∷ spell 1000 72 ∷ []) 1000 3 ≡ 0
group-used_up = refl

group-next_tick : share_among pool dir.Read (spell 0 0 ∷ spell 0 128 ∷ spell 1000 72 ∷ spell 2000 0 ∷ []) 2000 3 ≡ 64
group-next_tick = refl

-- One link is opened at time 0, with these settings and nothing read.
abbrev opened_with : Settings → Plain
opened_with g = with_link g true (turned_to 0 nothing_yet)

abbrev nothing_past : Past
nothing_past = past usual []

-- so many bytes were read from In of link 0, and nothing from another end
abbrev bytes_past : List ℕ → Past
bytes_past bytes = past usual ((entry.Read (in_of 0) (length bytes) (read.Got (length bytes)), bytes) ∷ [])

room-usual : read_room usual nothing_past (opened_with usual) (in_of 0) ≡ 16384
room-usual = refl

room-nothing_to_write : write_room usual nothing_past (opened_with usual) (out_of 0) ≡ 0
room-nothing_to_write = refl

abbrev five_at_most : Settings
five_at_most = record usual { in_marks = record { read_low = 0; read_high = 5; write_low = 0; write_high = 0 } }

room-read_mark : read_room five_at_most nothing_past (opened_with five_at_most) (in_of 0) ≡ 5
room-read_mark = refl

room-read_mark_used_up : read_room five_at_most (bytes_past (1 ∷ 2 ∷ 3 ∷ 4 ∷ 5 ∷ [])) (opened_with five_at_most) (in_of 0) ≡ 0
room-read_mark_used_up = refl

room-other_side : read_room five_at_most (bytes_past (1 ∷ 2 ∷ 3 ∷ 4 ∷ 5 ∷ [])) (opened_with five_at_most) (out_of 0) ≡ 16384
room-other_side = refl

wanted-new_link : wanted usual nothing_past (opened_with usual) ≡ record { side = in_of 0; read = true; write = false } ∷
    record { side = out_of 0; read = true; write = false } ∷ []
wanted-new_link = refl

wanted-connecting : wanted usual nothing_past (with_link usual false (turned_to 0 nothing_yet)) ≡
    record { side = in_of 0; read = true; write = false } ∷ record { side = out_of 0; read = false; write = true } ∷ []
wanted-connecting = refl

-- Ten bytes are read at a hold mark of 4. The raw output fills up to the mark, and the direction is held.
abbrev held_at_four : Settings
held_at_four = record usual { hold = 4 }

abbrev ten : Past
ten = bytes_past (48 ∷ 49 ∷ 50 ∷ 51 ∷ 52 ∷ 53 ∷ 54 ∷ 55 ∷ 56 ∷ 57 ∷ [])

abbrev passed : Plain → Plain
passed s = round held_at_four ten (in_of 0) (round held_at_four ten (in_of 0) s)

abbrev taken : ℕ → Plain → Plain
taken n s = after_write held_at_four ten (out_of 0) (write.Took n) s

abbrev first_offer : Plain
first_offer = passed (after_got held_at_four ten (in_of 0) (opened_with held_at_four))

hold-fills_to_the_mark : flow_at first_offer (in_of 0) ≡ record {
  used = 10;
  moved = 10;
  turned = 4;
  given = 0;
  read_done = false;
  write_done = false;
  held = true;
}
hold-fills_to_the_mark = refl

hold-first_offer : write_room held_at_four ten first_offer (out_of 0) ≡ 4
hold-first_offer = refl

hold-second_offer : write_room held_at_four ten (passed (taken 1 first_offer)) (out_of 0) ≡ 3
hold-second_offer = refl

hold-goes_on_at_half : write_room held_at_four ten (passed (taken 1 (passed (taken 1 first_offer)))) (out_of 0) ≡ 4
hold-goes_on_at_half = refl

hold-round_changes_nothing : round held_at_four ten (in_of 0) first_offer ≡ first_offer
hold-round_changes_nothing = refl

-- refusals in their order
abbrev first_refusal : Act → Option AskAnswer
first_refusal a = refusal usual (opened_with usual) a

refusal-not_live_first : first_refusal (act.Marks (in_of 7) dir.Read 0 (2 ^ 24 + 1)) ≡ Some ask.NotLive
refusal-not_live_first = refl

refusal-bad_value : first_refusal (act.Marks (in_of 0) dir.Read 0 (2 ^ 24 + 1)) ≡ Some ask.BadValue
refusal-bad_value = refl

refusal-greatest_mark : first_refusal (act.Marks (in_of 0) dir.Read 0 (2 ^ 24)) ≡ None
refusal-greatest_mark = refl

refusal-no_group : first_refusal (act.Join (in_of 0) 0) ≡ Some ask.NoGroup
refusal-no_group = refl

refusal-leave_none : first_refusal (act.Leave (in_of 0)) ≡ Some ask.BadValue
refusal-leave_none = refl

refusal-decref_none : first_refusal (act.Decref (in_of 0)) ≡ Some ask.BadValue
refusal-decref_none = refl

refusal-decref_of_none_freed : refusal usual (freed (in_of 0) (opened_with usual)) (act.Decref (in_of 0)) ≡ Some ask.NotLive
refusal-decref_of_none_freed = refl

refusal-decref_freed : refusal usual (freed (in_of 0) (done usual nothing_past (opened_with usual) (act.Incref (in_of 0))))
    (act.Decref (in_of 0)) ≡ None
refusal-decref_freed = refl

-- A read timeout of a second.
abbrev timed_in : Settings
timed_in = record usual { in_timeouts = record { read_ms = 1000; write_ms = 0 } }

abbrev at_time : Settings → ℕ → Plain → Plain
at_time g ms s = time_passed g nothing_past (turned_to ms s)

timeout-half : poll_timeout timed_in nothing_past (at_time timed_in 500 (opened_with timed_in)) ≡ Some 500
timeout-half = refl

timeout-passed : poll_timeout timed_in nothing_past (at_time timed_in 1000 (opened_with timed_in)) ≡ Some 0
timeout-passed = refl

timeout-wanted : wanted timed_in nothing_past (at_time timed_in 1000 (opened_with timed_in)) ≡
    record { side = out_of 0; read = true; write = false } ∷ []
timeout-wanted = refl

timeout-cause : closing_entry timed_in nothing_past (at_time timed_in 1000 (opened_with timed_in)) (CloseStep.Faulty (in_of 0)) ≡
    Some (entry.Freed (in_of 0) cause.Timeout 0 0)
timeout-cause = refl

-- A timer of 100 that is set at 10.
abbrev hooked : Settings
hooked = record usual { hooks = in_of 0 ∷ [] }

abbrev with_timer : Plain
with_timer = done hooked nothing_past (at_time hooked 10 (opened_with hooked)) (act.Timer (in_of 0) 100)

timer-not_yet : poll_timeout hooked nothing_past (at_time hooked 50 with_timer) ≡ Some 60
timer-not_yet = refl

timer-due : batch (at_time hooked 110 with_timer).due ≡ (in_of 0, why.Timer) ∷ []
timer-due = refl

timer-pressing : poll_timeout hooked nothing_past (at_time hooked 110 with_timer) ≡ Some 0
timer-pressing = refl

timer-taken : (at_time hooked 110 with_timer).timers ≡ []
timer-taken = refl

-- timers in the order of deadlines, and of adding
abbrev timer : ℕ → ℕ → Timer
timer k deadline = record { side = in_of k; deadline = deadline }

timers-in_order : placed (timer 3 5) (placed (timer 2 9) (placed (timer 1 5) (placed (timer 0 9) [])))
    ≡ timer 1 5 ∷ timer 3 5 ∷ timer 0 9 ∷ timer 2 9 ∷ []
timers-in_order = refl

-- What is planned: the second line is for the second read, and nothing is no ask.
abbrev plan : List PlanLine
plan = record { why = kind.Read; nth = 1; act = Some (act.Free (in_of 0)) } ∷ record { why = kind.Read; nth = 2; act = Some act.Stop }
    ∷ record { why = kind.Read; nth = 1; act = None } ∷ record { why = kind.Event; nth = 1; act = Some (act.Cancel (in_of 1)) } ∷ []

planned-in_order : acts_behind plan [] (why.Read ∷ event 17 ∷ why.Read ∷ event 33 ∷ []) ≡ act.Free (in_of 0) ∷ act.Cancel (in_of 1)
    ∷ act.Stop ∷ []
planned-in_order = refl
