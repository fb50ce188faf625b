-- What is answered by small scripts, line by line.
use Rattle.std.proofs.Common.{◌≡◌, ℕ, Bool, true, false, List, [], ◌∷◌, Some, None, refl}
use Rattle.ev_types.specs.declared.side.Side.TheVariants.{In, Out}
use Rattle.ev_types.specs.declared.side.SideId.{SideId}
use Rattle.ev_types.specs.declared.answer.ConnAnswer.TheVariants as conn
use Rattle.ev_types.specs.declared.answer.ReadAnswer.TheVariants as read
use Rattle.ev_types.specs.declared.answer.WriteAnswer.TheVariants as write
use Rattle.ev_types.specs.declared.answer.AskAnswer.TheVariants as ask
use Rattle.ev_types.specs.declared.act.Act.TheVariants as act
use Rattle.ev_types.specs.declared.why.Why.TheVariants as why
use Rattle.ev_types.specs.declared.why.WhyKind.TheVariants as why_kind
use Rattle.ev_types.specs.declared.entry.Entry.{Entry}
use Rattle.ev_types.specs.declared.entry.Entry.TheVariants as entry
use Rattle.ev_types.specs.Trace.{Event, Trace}
use Rattle.relay_model.specs.Settings.{usual}
use Rattle.relay_model.specs.Rooms.{Want}
use Rattle.ev_types.specs.declared.turn_line.TurnLine.{TurnLine}
use Rattle.ev_types.specs.declared.turn_line.TurnLine.TheVariants as line
use Rattle.ev_types.specs.declared.plan_line.PlanLine.{PlanLine}
use Rattle.relay_model.specs.Plans.{IsPlanned}
use Rattle.ev_types.specs.ScriptTurn.{ScriptTurn}
use Rattle.relay_model.specs.Script.{Script, closing_step, run_settings, plan_of}
use Rattle.relay_model.specs.Hooked.{heard_in, asked_in}
use Rattle.relay_model.specs.Polls.{fails_among}
use Rattle.relay_model.specs.Plays.{PlayStep, trace_of}

abbrev i : SideId
i = record { link = 0; side = In }

abbrev o : SideId
o = record { link = 0; side = Out }

abbrev want : SideId → Bool → Bool → Want
want e r w = record { side = e; read = r; write = w }

abbrev plain : Entry → Event
plain x = (x, [])

abbrev played : List ScriptTurn → List PlayStep → Trace
played turns steps = trace_of turns 1000 steps

-- one turn of these lines, and closing turns behind it
abbrev once : List TurnLine → List PlayStep → Trace
once lines steps = played ((0, lines) ∷ []) (PlayStep.Now ∷ steps)

-- The clock may fall, and the time stays. Closing turns go on from the last reading.
clock-goes_on : played ((5000, []) ∷ (1000, []) ∷ []) (PlayStep.Now ∷ PlayStep.Now ∷ PlayStep.Now ∷ PlayStep.Now ∷ PlayStep.Now ∷ PlayStep.Now ∷ [])
    ≡ plain (entry.Turn 5000) ∷ plain (entry.Turn 5000) ∷ plain (entry.Turn 5000) ∷ plain (entry.Turn 5000) ∷ plain
    (entry.Turn 5000) ∷ plain (entry.Turn 5000) ∷ []
clock-goes_on = refl

clock-passes_at_last : played ((2500, []) ∷ (1000, []) ∷ []) (PlayStep.Now ∷ PlayStep.Now ∷ PlayStep.Now ∷ PlayStep.Now ∷ [])
    ≡ plain (entry.Turn 2500) ∷ plain (entry.Turn 2500) ∷ plain (entry.Turn 2500) ∷ plain (entry.Turn 3000) ∷ []
clock-passes_at_last = refl

clock-step : closing_step usual ≡ 1000
clock-step = refl

-- Links are taken in their order, and none where none waits.
links-in_order : once (line.NewLink false ∷ line.NewLink true ∷ []) (PlayStep.Accept ∷ PlayStep.Accept ∷ PlayStep.Accept ∷ [])
    ≡ plain (entry.Turn 0) ∷ plain (entry.Opened 0 true) ∷ plain (entry.Opened 1 false) ∷ []
links-in_order = refl

-- A read gives what is pending, and then fails or is ended.
reads-in_parts : once (line.NewLink false ∷ line.Pending i (1 ∷ 2 ∷ []) ∷ line.Pending o (7 ∷ []) ∷ line.Pending i (3 ∷ []) ∷
    line.Eof i ∷ []) (PlayStep.Read i 2 ∷ PlayStep.Read i 2 ∷ PlayStep.Read i 2 ∷ PlayStep.Read o 2 ∷ PlayStep.Read o 2 ∷ [])
    ≡ plain (entry.Turn 0) ∷ (entry.Read i 2 (read.Got 2), 1 ∷ 2 ∷ []) ∷ (entry.Read i 2 (read.Got 1), 3 ∷ []) ∷ plain
    (entry.Read i 2 read.Ended)
    ∷ (entry.Read o 2 (read.Got 1), 7 ∷ []) ∷ plain (entry.Read o 2 read.NotYet) ∷ []
reads-in_parts = refl

reads-fail_first : once (line.Pending i (1 ∷ []) ∷ line.Eof i ∷ line.ReadFail i ∷ []) (PlayStep.Read i 2 ∷ PlayStep.Read i 2 ∷ [])
    ≡ plain (entry.Turn 0) ∷ (entry.Read i 2 (read.Got 1), 1 ∷ []) ∷ plain (entry.Read i 2 read.Failed) ∷ []
reads-fail_first = refl

-- A write takes what it may, and then fails or waits. A closing turn takes everything.
writes-in_parts : once (line.Take o (Some 1) ∷ line.Take o (Some 2) ∷ line.Take i (Some 1) ∷ line.WriteFail o ∷ [])
    (PlayStep.Write o (1 ∷ 2 ∷ []) ∷ PlayStep.Write o (3 ∷ 4 ∷ []) ∷ PlayStep.Write o (4 ∷ []) ∷ PlayStep.Write i (5 ∷ []) ∷ PlayStep.Write i (6 ∷ [])
    ∷ PlayStep.Now ∷ PlayStep.Write o (4 ∷ []) ∷ PlayStep.Write i (6 ∷ []) ∷ [])
    ≡ plain (entry.Turn 0) ∷ (entry.Write o 2 (write.Took 2), 1 ∷ 2 ∷ []) ∷ (entry.Write o 2 (write.Took 1), 3 ∷ []) ∷ plain
    (entry.Write o 1 write.Failed)
    ∷ (entry.Write i 1 (write.Took 1), 5 ∷ []) ∷ plain (entry.Write i 1 write.NotYet)
    ∷ plain (entry.Turn 1000) ∷ (entry.Write o 1 (write.Took 1), 4 ∷ []) ∷ (entry.Write i 1 (write.Took 1), 6 ∷ []) ∷ []
writes-in_parts = refl

writes-any_number : once (line.Take o None ∷ []) (PlayStep.Write o (1 ∷ 2 ∷ []) ∷ []) ≡ plain (entry.Turn 0) ∷
    (entry.Write o 2 (write.Took 2), 1 ∷ 2 ∷ []) ∷ []
writes-any_number = refl

-- An undecided end waits for the first decision, which a closing turn brings.
check-decided : once (line.NewLink true ∷ line.NewLink true ∷ line.Conn 1 true ∷ line.Conn 0 false ∷ line.Conn 0 true ∷ [])
    (PlayStep.Check o ∷ PlayStep.Check (record { link = 1; side = Out }) ∷ [])
    ≡ plain (entry.Turn 0) ∷ plain (entry.Conn o conn.Failed) ∷ plain (entry.Conn (record { link = 1; side = Out }) conn.Connected) ∷ []
check-decided = refl

check-closing : once (line.NewLink true ∷ []) (PlayStep.Check o ∷ PlayStep.Now ∷ PlayStep.Check o ∷ []) ≡ plain (entry.Turn 0) ∷ plain
    (entry.Conn o conn.Pending) ∷ plain (entry.Turn 1000) ∷ plain (entry.Conn o conn.Connected) ∷ []
check-closing = refl

-- The poll marks what is wanted and can be done, but for the lines that mark all or fail it in their turn alone.
abbrev wants_all : List Want
wants_all = want i true true ∷ want o true true ∷ []

abbrev polled : List TurnLine → Trace
polled lines = once lines (PlayStep.Poll (Some 9) wants_all ∷ [])

abbrev poll_then : Trace → Trace
poll_then marks = plain (entry.Turn 0) ∷ plain (entry.Poll (Some 9)) ∷ plain (entry.Want i true true) ∷ plain
    (entry.Want o true true) ∷ marks

poll-nothing : polled (line.NewLink false ∷ []) ≡ poll_then []
poll-nothing = refl

poll-pending : polled (line.NewLink false ∷ line.Pending i (1 ∷ []) ∷ line.Take o (Some 1) ∷ []) ≡ poll_then
    (plain (entry.Ready i true false) ∷ plain (entry.Ready o false true) ∷ [])
poll-pending = refl

poll-at_the_end : polled (line.NewLink false ∷ line.Eof i ∷ line.ReadFail o ∷ []) ≡ poll_then
    (plain (entry.Ready i true false) ∷ plain (entry.Ready o true false) ∷ [])
poll-at_the_end = refl

poll-failing_writes : polled (line.NewLink false ∷ line.WriteFail o ∷ line.Take i None ∷ []) ≡ poll_then
    (plain (entry.Ready i false true) ∷ plain (entry.Ready o false true) ∷ [])
poll-failing_writes = refl

poll-undecided : polled (line.NewLink true ∷ line.Take o None ∷ []) ≡ poll_then []
poll-undecided = refl

poll-decided : polled (line.NewLink true ∷ line.Conn 0 false ∷ []) ≡ poll_then (plain (entry.Ready o false true) ∷ [])
poll-decided = refl

poll-connected : once (line.NewLink true ∷ line.Conn 0 true ∷ []) (PlayStep.Check o ∷ PlayStep.Poll None (want o false true ∷ []) ∷ [])
    ≡ plain (entry.Turn 0) ∷ plain (entry.Conn o conn.Connected) ∷ plain (entry.Poll None) ∷ plain (entry.Want o false true) ∷ []
poll-connected = refl

poll-all_of_an_end : polled (line.NewLink true ∷ line.Spur o ∷ []) ≡ poll_then (plain (entry.Ready o true true) ∷ [])
poll-all_of_an_end = refl

poll-all_in_its_turn : once (line.NewLink true ∷ line.Spur i ∷ line.PollFail ∷ []) (PlayStep.Now ∷ PlayStep.Poll None
    (want i true false ∷ want o false true ∷ []) ∷ [])
    ≡ plain (entry.Turn 0) ∷ plain (entry.Turn 1000) ∷ plain (entry.Poll None) ∷ plain (entry.Want i true false) ∷ plain
    (entry.Want o false true) ∷ plain (entry.Ready o false true) ∷ []
poll-all_in_its_turn = refl

poll-fails : polled (line.NewLink false ∷ line.Pending i (1 ∷ []) ∷ line.PollFail ∷ []) ≡ poll_then (plain entry.PollFailed ∷ [])
poll-fails = refl

-- The sides with a hook are those for which something is planned and a hook was handed in; each has its own lines.
abbrev planned : ℕ → PlanLine
planned n = record { why = why_kind.Read; nth = n; act = Some act.Stop }

abbrev planned_script : Script
planned_script = record {
  settings = usual;
  plans = (o, planned 1) ∷ (record { link = 7; side = In }, planned 1) ∷ (o, planned 2) ∷
      [];
  turns = [];
}

hooks-handed_in : (run_settings planned_script 2).hooks ≡ o ∷ []
hooks-handed_in = refl

hooks-plan : plan_of planned_script o ≡ planned 1 ∷ planned 2 ∷ []
hooks-plan = refl

-- The second read of Out is answered by its second line.
abbrev fired_twice : Trace
fired_twice = plain (entry.Fired o why.Read) ∷ plain (entry.Asked o act.Stop ask.Ok) ∷ plain (entry.Fired i why.Read) ∷ plain
    (entry.Fired o why.Read) ∷ plain (entry.Asked o act.Stop ask.Ok) ∷ []

asks-planned : IsPlanned (plan_of planned_script o) (heard_in o fired_twice) (asked_in o fired_twice)
asks-planned = refl

asks-of_another : IsPlanned (plan_of planned_script i) (heard_in i fired_twice) (asked_in i fired_twice)
asks-of_another = refl

-- the second of three turns fails its poll
abbrev failing_second : List ScriptTurn
failing_second = (0, line.NewLink false ∷ []) ∷ (5, line.Eof i ∷ line.PollFail ∷ []) ∷ (9, []) ∷ []

first-goes : fails_among failing_second 1 ≡ false
first-goes = refl

second-fails : fails_among failing_second 2 ≡ true
second-fails = refl
