-- Runs over small scripts: what is played, and what is not.
use Rattle.std.proofs.Common.{ℕ, Bool, true, false, List, [], ◌∷◌, ◌++◌, None, refl, sym, ap, arith}
use Rattle.std.proofs.lemmas.Bool.{true≢false}
use mathlib.Core.Logic.{inl, inr}
use Rattle.ev_types.specs.declared.side.Side.TheVariants.{In, Out}
use Rattle.ev_types.specs.declared.side.SideId.{SideId}
use Rattle.ev_types.specs.declared.why.Cause.TheVariants as cause
use Rattle.ev_types.specs.declared.answer.ConnAnswer.TheVariants as conn
use Rattle.ev_types.specs.declared.answer.ReadAnswer.TheVariants as read
use Rattle.ev_types.specs.declared.answer.WriteAnswer.TheVariants as write
use Rattle.ev_types.specs.declared.entry.Entry.{Entry}
use Rattle.ev_types.specs.declared.entry.Entry.TheVariants as entry
use Rattle.ev_types.specs.Trace.{Event, Trace}
use Rattle.relay_model.specs.Settings.{usual}
use Rattle.relay_model.specs.Rooms.{Want}
use Rattle.relay_model.specs.Answers.{TurnAnswer}
use Rattle.ev_types.specs.declared.turn_line.TurnLine.TheVariants as line
use Rattle.ev_types.specs.ScriptTurn.{ScriptTurn}
use Rattle.relay_model.specs.Script.{Script}
use Rattle.relay_model.specs.Plays.{PlayStep, TookAll, Plays}
use Rattle.relay_model.proofs.PlayedLemmas.{always_took, is_empty}

abbrev pub i : SideId
i = record { link = 0; side = In }

abbrev pub o : SideId
o = record { link = 0; side = Out }

abbrev script : List ScriptTurn → Script
script turns = record { settings = usual; plans = []; turns = turns }

abbrev want : SideId → Bool → Bool → Want
want e r w = record { side = e; read = r; write = w }

-- an entry with no bytes
abbrev plain : Entry → Event
plain x = (x, [])

abbrev hi : List ℕ
hi = 104 ∷ 105 ∷ []

-- Two bytes go through, and the end behind them.
abbrev hi_script : Script
hi_script = script ((0, line.NewLink false ∷ []) ∷ (1, line.Pending i hi ∷ line.Eof i ∷ line.Take o None ∷ []) ∷ (2, []) ∷ [])

abbrev hi_trace : Trace
hi_trace =
    plain (entry.Turn 0) ∷ plain (entry.Poll None) ∷ plain (entry.Opened 0 true)
    ∷ plain (entry.Turn 1) ∷ plain (entry.Poll None) ∷ plain (entry.Want i true false) ∷ plain (entry.Want o true false) ∷ plain
    (entry.Ready i true false)
    ∷ (entry.Read i 16384 (read.Got 2), hi)
    ∷ plain (entry.Turn 2) ∷ plain (entry.Poll None) ∷ plain (entry.Want i true false) ∷ plain (entry.Want o true true) ∷ plain
    (entry.Ready i true false) ∷ plain (entry.Ready o false true)
    ∷ plain (entry.Read i 16384 read.Ended) ∷ (entry.Write o 2 (write.Took 2), hi) ∷ plain (entry.CloseWrite o) ∷ []

abbrev hi_steps : List PlayStep
hi_steps =
    PlayStep.Now ∷ PlayStep.Poll None [] ∷ PlayStep.Accept
    ∷ PlayStep.Now ∷ PlayStep.Poll None (want i true false ∷ want o true false ∷ []) ∷ PlayStep.Read i 16384
    ∷ PlayStep.Now ∷ PlayStep.Poll None (want i true false ∷ want o true true ∷ []) ∷ PlayStep.Read i 16384 ∷ PlayStep.Write o hi ∷ PlayStep.Own
    (entry.CloseWrite o) ∷ []

hi-is_played : Plays hi_script 0 TurnAnswer.Went hi_trace
hi-is_played = record { answered = (hi_steps, refl); took_all = always_took hi_script.turns 256 [] hi_trace refl; turns = (refl, inl refl) }

-- Both ways, and both ends are done.
abbrev get : List ℕ
get = 71 ∷ 69 ∷ 84 ∷ []

abbrev ok : List ℕ
ok = 50 ∷ 48 ∷ 48 ∷ []

abbrev both_script : Script
both_script = script (
    (0, line.NewLink false ∷ [])
    ∷ (1, line.Pending i get ∷ line.Eof i ∷ line.Take i None ∷ line.Take o None ∷ [])
    ∷ (2, line.Pending o ok ∷ line.Eof o ∷ []) ∷ (3, []) ∷ [])

abbrev pub both_trace : Trace
both_trace =
    plain (entry.Turn 0) ∷ plain (entry.Poll None) ∷ plain (entry.Opened 0 true)
    ∷ plain (entry.Turn 1) ∷ plain (entry.Poll None) ∷ plain (entry.Want i true false) ∷ plain (entry.Want o true false) ∷ plain
    (entry.Ready i true false)
    ∷ (entry.Read i 16384 (read.Got 3), get)
    ∷ plain (entry.Turn 2) ∷ plain (entry.Poll None) ∷ plain (entry.Want i true false) ∷ plain (entry.Want o true true) ∷ plain
    (entry.Ready i true false) ∷ plain (entry.Ready o true true)
    ∷ plain (entry.Read i 16384 read.Ended) ∷ (entry.Read o 16384 (read.Got 3), ok) ∷ (entry.Write o 3 (write.Took 3), get) ∷ plain
    (entry.CloseWrite o)
    ∷ plain (entry.Turn 3) ∷ plain (entry.Poll None) ∷ plain (entry.Want i false true) ∷ plain (entry.Want o true false) ∷ plain
    (entry.Ready i false true) ∷ plain (entry.Ready o true false)
    ∷ (entry.Write i 3 (write.Took 3), ok) ∷ plain (entry.Read o 16384 read.Ended) ∷ plain (entry.CloseWrite i)
    ∷ plain (entry.Freed i cause.Done 3 3) ∷ plain (entry.Freed o cause.Done 3 3) ∷ plain (entry.Close i) ∷ plain (entry.Close o) ∷ []

abbrev both_steps : List PlayStep
both_steps =
    PlayStep.Now ∷ PlayStep.Poll None [] ∷ PlayStep.Accept
    ∷ PlayStep.Now ∷ PlayStep.Poll None (want i true false ∷ want o true false ∷ []) ∷ PlayStep.Read i 16384
    ∷ PlayStep.Now ∷ PlayStep.Poll None (want i true false ∷ want o true true ∷ []) ∷ PlayStep.Read i 16384 ∷ PlayStep.Read o 16384 ∷ PlayStep.Write o
    get ∷ PlayStep.Own (entry.CloseWrite o)
    ∷ PlayStep.Now ∷ PlayStep.Poll None (want i false true ∷ want o true false ∷ []) ∷ PlayStep.Write i ok ∷ PlayStep.Read o 16384 ∷ PlayStep.Own
    (entry.CloseWrite i)
    ∷ PlayStep.Own (entry.Freed i cause.Done 3 3) ∷ PlayStep.Own (entry.Freed o cause.Done 3 3) ∷ PlayStep.Own (entry.Close i) ∷ PlayStep.Own
    (entry.Close o) ∷ []

both-is_played : Plays both_script 0 TurnAnswer.Went both_trace
both-is_played = record {
  answered = (both_steps, refl);
  took_all = always_took both_script.turns 256 [] both_trace refl;
  turns =
      (refl, inl refl);
}

-- A connection fails.
abbrev failed_script : Script
failed_script = script ((0, line.NewLink true ∷ []) ∷ (1, line.Pending i (97 ∷ []) ∷ line.Conn 0 false ∷ []) ∷ [])

abbrev pub failed_trace : Trace
failed_trace =
    plain (entry.Turn 0) ∷ plain (entry.Poll None) ∷ plain (entry.Opened 0 false)
    ∷ plain (entry.Turn 1) ∷ plain (entry.Poll None) ∷ plain (entry.Want i true false) ∷ plain (entry.Want o false true) ∷ plain
    (entry.Ready i true false) ∷ plain (entry.Ready o false true)
    ∷ (entry.Read i 16384 (read.Got 1), 97 ∷ []) ∷ plain (entry.Conn o conn.Failed)
    ∷ plain (entry.Freed o cause.Failed 0 0) ∷ plain (entry.Freed i cause.PeerGone 1 0) ∷ plain (entry.Close i) ∷ plain (entry.Close o) ∷ []

abbrev failed_steps : List PlayStep
failed_steps =
    PlayStep.Now ∷ PlayStep.Poll None [] ∷ PlayStep.Accept
    ∷ PlayStep.Now ∷ PlayStep.Poll None (want i true false ∷ want o false true ∷ []) ∷ PlayStep.Read i 16384 ∷ PlayStep.Check o
    ∷ PlayStep.Own (entry.Freed o cause.Failed 0 0) ∷ PlayStep.Own (entry.Freed i cause.PeerGone 1 0) ∷ PlayStep.Own (entry.Close i) ∷ PlayStep.Own
    (entry.Close o) ∷ []

failed-is_played : Plays failed_script 0 TurnAnswer.Went failed_trace
failed-is_played = record {
  answered = (failed_steps, refl);
  took_all = always_took failed_script.turns 256 [] failed_trace refl;
  turns = (refl, inl refl);
}

-- A link waits and isn't opened. That may be so where memory was wanting before accepting ended; but no turn goes on so, and
-- no run says that all is well.
abbrev one_link : Script
one_link = script ((0, line.NewLink false ∷ []) ∷ [])

abbrev idle : Trace
idle = plain (entry.Turn 0) ∷ plain (entry.Poll None) ∷ []

waits : TookAll one_link.turns 256 idle → ⊥
waits (inl none) = true≢false (ap is_empty (sym none))
waits (inr (inl many)) = omega (arith, many)
waits (inr (inr all)) = omega (arith, all)

memory-may_want : Plays one_link 0 TurnAnswer.Memory idle
memory-may_want = record { answered = (PlayStep.Now ∷ PlayStep.Poll None [] ∷ [], refl); took_all = (inl refl, (tt, tt)); turns = omega arith }

a_waiting_link_is_opened : Plays one_link 0 TurnAnswer.Went idle → ⊥
a_waiting_link_is_opened p = waits p.turns.1

a_waiting_link_is_opened_before_the_next_turn : (closing : ℕ) (answer : TurnAnswer) → Plays one_link closing answer (idle ++ idle) → ⊥
a_waiting_link_is_opened_before_the_next_turn closing answer p = waits p.took_all.1.1.0

-- Nor are there more turns than the script has.
abbrev taken : Trace
taken = idle ++ plain (entry.Opened 0 true) ∷ []

no_turn_is_added : (answer : TurnAnswer) → Plays one_link 0 answer (taken ++ idle) → ⊥
no_turn_is_added TurnAnswer.Went p = omega (arith, p.turns.0)
no_turn_is_added (TurnAnswer.Stopped link) p = omega (arith, p.turns.0)
no_turn_is_added TurnAnswer.PollFault p = omega (arith, p.turns)
no_turn_is_added TurnAnswer.OpenFault p = p.turns
no_turn_is_added TurnAnswer.Spent p = omega (arith, p.turns.0)
no_turn_is_added TurnAnswer.Memory p = omega (arith, p.turns)

-- and no fewer where it says that all is well
no_turn_is_left_out : Plays hi_script 0 TurnAnswer.Went taken → ⊥
no_turn_is_left_out p = omega (arith, p.turns.0)
