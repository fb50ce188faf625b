-- A run of a generated script may begin, and nothing but want of memory keeps it from its end.
use Rattle.std.proofs.Common.{◌≡◌, ◌≤◌, ◌+◌, ◌-◌, ◌++◌, ◌||◌, ℕ, zero, suc, Bool, true, false, List, [], ◌∷◌, Option, Result, Ok, Err, refl}
use Rattle.std.proofs.Common.{sym, ap, subst, arith, ◌∙◌, take, drop}
use Rattle.std.specs.Prelude.{replicate, IfOk, IfErr}
use Rattle.std.specs.List.{flat_map, list_any}
use Rattle.ev_types.specs.ScriptTurn.{ScriptTurn}
use Rattle.ev_types.specs.Trace.{Trace}
use Rattle.ev_types.specs.declared.status.LinkCount.{LinkCount}
use Rattle.ev_types.specs.declared.turn_line.TurnLine.{TurnLine}
use Rattle.ev_types.specs.declared.turn_line.TurnLine.TheVariants as line
use Rattle.command_words.specs.declared.mode.Ending.TheVariants as ending
use Rattle.relay_model.specs.Settings.{HoldsSome}
use Rattle.relay_model.specs.Lines.{fails_poll}
use Rattle.relay_model.specs.Scripted.{begun, poll_fails}
use Rattle.relay_laws.specs.Spelling.{BringsFit, TimeoutsFit}
use Rattle.program_end.proofs.StopLemmas.{never_stopped}
use Rattle.big_script.specs.BigScript.{big_script_of, idle_turns, lines_from}
use Rattle.big_script.specs.Generated.{number_after}
use Rattle.big_script.proofs.BigLemmas.{big_scripts_are_big}
use Rattle.script_port.specs.ScriptState.{PortState}
use Rattle.relay_drive.specs.Seats.{Telling}
use Rattle.evplay.specs.Big.{summary_text, IsBigText, no_hooks}
use Rattle.evplay.specs.HandedIn.{HasSeats}
use Rattle.evplay.specs.Headline.{settings_of, settings_on, IsRun}
use Rattle.evplay.specs.Run.{answer_of, script_over, AreSmall, TellsTurn}
use Rattle.evplay.specs.declared.run.RunEnd.{RunEnd}
use Rattle.evplay.specs.declared.run.RunEnd.TheVariants as run_end

pub big-small : (n : ℕ) → n ≤ 64 → AreSmall (big_script_of n).turns
big-small n few =
    let big = big_scripts_are_big n in
    let turns = big.turns in
    let links = big.links in
    let bytes = big.brought in
    record {
      few = omega (arith, turns);
      links = omega (arith, links, few);
      bytes = omega (arith, bytes, few);
      moments = big.moments;
    }

pub big-brings : (n : ℕ) → n ≤ 64 → BringsFit (big_script_of n).turns
big-brings n few e =
    let each = (big_scripts_are_big n).each e in
    let length_few = each.few in
    record { each = each.bytes; count = omega (arith, length_few, few) }

pub big-timeouts : (n : ℕ) → TimeoutsFit (settings_of (big_script_of n))
big-timeouts n = record { in_read = omega arith; in_write = omega arith; out_read = omega arith; out_write = omega arith }

pub big-holds : (n : ℕ) → HoldsSome (settings_of (big_script_of n))
big-holds n = record { hold = omega arith }

-- no hook is seated
pub none-seated : {H : Type 0} (tells : Telling H) (n : ℕ) (hooks : List (Option H)) → hooks ≡ [] →
    HasSeats hooks tells (big_script_of n).plans no_hooks
none-seated tells n hooks none =
    subst (λ z. HasSeats z tells (big_script_of n).plans no_hooks) (sym none) (record { sides = refl; told = λ tell m. tt })

-- No poll fails

from-none : (each n link x : ℕ) → list_any fails_poll (lines_from each n link x) ≡ false
from-none each zero link x = refl
from-none each (suc n) link x = from-none each n (link + 1) (number_after each x)

opened-none : (n : ℕ) → list_any fails_poll (replicate n (line.NewLink false)) ≡ false
opened-none zero = refl
opened-none (suc n) = opened-none n

-- in each turn of some turns no poll fails
abbrev NonePollFails : List ScriptTurn → Type 0
NonePollFails [] = Unit {0}
NonePollFails (turn ∷ turns) = (list_any fails_poll turn.1 ≡ false) × NonePollFails turns

idle-none : (n ms : ℕ) → NonePollFails (idle_turns n ms)
idle-none zero ms = tt
idle-none (suc n) ms = (refl, idle-none n (ms + 1000))

big-none : (n : ℕ) → NonePollFails (big_script_of n).turns
big-none n = (opened-none n, (from-none 3000 n 0 n, idle-none 10 2000))

any-append : (xs ys : List TurnLine) → list_any fails_poll xs ≡ false → list_any fails_poll ys ≡ false →
    list_any fails_poll (xs ++ ys) ≡ false
any-append [] ys h k = k
any-append (x ∷ xs) ys h k = go (λ e. any-append xs ys e k) (fails_poll x) refl h
  where
    go : (list_any fails_poll xs ≡ false → list_any fails_poll (xs ++ ys) ≡ false) → (b : Bool) → fails_poll x ≡ b →
        (b || list_any fails_poll xs) ≡ false → (fails_poll x || list_any fails_poll (xs ++ ys)) ≡ false
    go rest true is e = absurd (cc e)
    go rest false is e = ap (λ b. b || list_any fails_poll (xs ++ ys)) is ∙ rest e

none-in : (turns : List ScriptTurn) → NonePollFails turns → list_any fails_poll (flat_map (λ (turn : ScriptTurn). turn.1) turns) ≡ false
none-in [] h = refl
none-in (turn ∷ turns) h = any-append turn.1 (flat_map (λ (turn : ScriptTurn). turn.1) turns) h.0 (none-in turns h.1)

none-taken : (n : ℕ) (turns : List ScriptTurn) → NonePollFails turns → NonePollFails (take n turns)
none-taken zero turns h = tt
none-taken (suc n) [] h = tt
none-taken (suc n) (turn ∷ turns) h = (h.0, none-taken n turns h.1)

none-dropped : (n : ℕ) (turns : List ScriptTurn) → NonePollFails turns → NonePollFails (drop n turns)
none-dropped zero turns h = h
none-dropped (suc n) [] h = tt
none-dropped (suc n) (turn ∷ turns) h = none-dropped n turns h.1

big-polls : (n : ℕ) (t : Trace) → poll_fails (big_script_of n).turns t ≡ false
big-polls n t =
    let turns = (big_script_of n).turns in
    let many = begun turns t in
    none-in (drop (many - 1) (take many turns)) (none-dropped (many - 1) (take many turns) (none-taken many turns (big-none n)))

-- A run of it went to its end.
pub big-went : (n : ℕ) (end : RunEnd) (t : Trace) (links : List LinkCount) →
    IsRun (big_script_of n) ending.Drained no_hooks (answer_of end) t links → end ≡ run_end.Went
big-went n run_end.Went t links run = refl
big-went n run_end.PollFailed t links run = absurd (let fails = run.polls.0 in let none = big-polls n t in cc)
big-went n (run_end.Stopped link turn) t links run =
    let ended = run.relayed.ended in
    absurd (never_stopped (settings_on (big_script_of n) no_hooks) t _ link (record { none = refl }) ended.stood.reached ended.left)

-- what is told of a run that was not refused
pub big-text : {E : Type 0} (n : ℕ) (ended : Result RunEnd E) (t : Trace) (links : List LinkCount) (p : PortState) (text : List ℕ) →
    p.turns ≡ (big_script_of n).turns →
    IfOk ended (λ end. IsRun (script_over (big_script_of n) p) ending.Drained no_hooks (answer_of end) t links × TellsTurn end t) →
    IfErr ended (λ e. ⊥) → text ≡ summary_text n t links → IsBigText n text
big-text n (Err e) t links p text same run fine is = absurd fine
big-text n (Ok end) t links p text same run fine is =
    let whole : IsRun (big_script_of n) ending.Drained no_hooks (answer_of end) t links =
    subst (λ turns. IsRun (record (big_script_of n) { turns = turns }) ending.Drained no_hooks (answer_of end) t links) same run.0 in
    let went = big-went n end t links whole in
    (t, links, subst (λ x. IsRun (big_script_of n) ending.Drained no_hooks (answer_of x) t links) went whole, is)
