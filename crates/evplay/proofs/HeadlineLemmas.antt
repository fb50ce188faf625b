-- A trace for which a relay stands, and which is played from a script, is that of a run of that script.
use Rattle.std.proofs.Common.{◌≡◌, ◌<◌, ℕ, zero, suc, List, [], ◌∷◌, Some, true, subst, arith, sym, ap, ◌∙◌}
use Rattle.std.specs.Prelude.{slice_get}
use Rattle.std.specs.List.{AllByRecursion}
use Rattle.ev_types.specs.ScriptTurn.{lines_of}
use Rattle.ev_types.specs.Trace.{Trace}
use Rattle.ev_types.specs.AskNumbers.{AsksFit}
use Rattle.command_words.specs.declared.mode.Ending.{Ending}
use Rattle.script_text.specs.Script.{ScriptValue}
use Rattle.script_text.proofs.TraceReadLemmas.{trace_of-trace_text}
use Rattle.relay_model.specs.Settings.{Settings, GroupSet, HoldsSome}
use Rattle.relay_model.specs.Stages.{Stage, at}
use Rattle.relay_model.specs.Turn.{Reaches}
use Rattle.relay_model.specs.Answers.{TurnAnswer, LeftAt, EndsWith}
use Rattle.relay_model.specs.Called.{NamesOpened}
use Rattle.relay_model.specs.Hooked.{AskPlanned}
use Rattle.relay_model.specs.Plays.{Plays}
use Rattle.relay_model.specs.Script.{closing_step, plan_of}
use Rattle.relay_model.proofs.PollLemmas.{polls_fail_as_scripted}
use Rattle.relay_state.specs.State.{State}
use Rattle.relay_steps.specs.Meaning.{StandsFor, HasItsGroups}
use Rattle.relay_laws.specs.TurnEnds.{AtTurnEnds}
use Rattle.relay_laws.specs.Report.{lines_below}
use Rattle.relay_laws.specs.Relayed.{StoodBetween, IsRelayed}
use Rattle.relay_laws.specs.Spelling.{TimeoutsFit, BringsFit}
use Rattle.relay_laws.proofs.RelayedLemmas.{relayed-of}
use Rattle.relay_laws.proofs.SpellingLemmas.{reads_fit_as_scripted, stood_is_spellable}
use Rattle.drain_laws.specs.CanDrain.{LeavesRoom, NoneBehind}
use Rattle.evplay.specs.HandedIn.{HandedIn}
use Rattle.evplay.specs.Headline.{EndsAs, IsRun, settings_on, script_run}
use Rattle.evplay.specs.Run.{AreSmall}
use Rattle.evplay.proofs.DrainedLemmas.{drained-where}
use Rattle.evplay.proofs.ScriptLemmas.{some-is}

share-some : (xs : List GroupSet) → AllByRecursion (λ (y : GroupSet). 0 < y.share) xs → (n : ℕ) (x : GroupSet) →
    slice_get xs n ≡ Some x → 0 < x.share
share-some [] h n x is = absurd (cc)
share-some (y ∷ ys) h zero x is = subst (λ (z : GroupSet). 0 < z.share) (some-is y x is) h.0
share-some (y ∷ ys) h (suc n) x is = share-some ys h.1 n x is

-- settings that have their groups leave room for bytes where the hold mark isn't 0
leaves-room : (g : Settings) → HoldsSome g → HasItsGroups g → LeavesRoom g
leaves-room g holds groups =
    record { holds = holds; shares = λ n x is. share-some g.groups groups.shares n x is }

-- What is played, at a stage at which a turn may answer so, is a run that ended with this answer, where what the script brings in
-- fits, and what was asked.
pub run-of : (script : ScriptValue) (how : Ending) (handed : HandedIn) (answer : TurnAnswer) (t : Trace) (x : Stage) (s : State)
    (closing : ℕ) → s.settings ≡ settings_on script handed → s.settings.links ≡ 256 → TimeoutsFit s.settings → HoldsSome s.settings →
    BringsFit script.turns → AreSmall script.turns → NamesOpened 0 (lines_of script.turns) → NoneBehind (lines_of script.turns) →
    (k : StandsFor t x s) → LeftAt s.settings answer x s.plain → Plays (script_run script) closing answer t →
    EndsAs how script.turns (settings_on script handed) answer closing t → AsksFit t →
    (handed.tell ≡ true → AskPlanned (plan_of (script_run script)) answer t) → AtTurnEnds (StoodBetween (settings_on script handed)) t →
    IsRun script how handed answer t (lines_below s s.plain.opened)
run-of script how handed answer t x s closing is links timeouts holds fit small names behind k left played ends_so asks asked ends =
    let g : Settings = settings_on script handed in
    let reached : Reaches g t (at x s.plain) = subst (λ z. Reaches z t (at x s.plain)) is k.reached in
    let left_at : LeftAt g answer x s.plain = subst (λ z. LeftAt z answer x s.plain) is left in
    let legal : EndsWith g answer t = (x, s.plain, reached, left_at) in
    let reads = reads_fit_as_scripted script.turns (closing_step g) t fit played.answered in
    let relayed : IsRelayed g answer t (lines_below s s.plain.opened) = relayed-of g answer t x s is k left ends in
    record {
      relayed = relayed;
      closing = closing;
      played = played;
      ends = ends_so;
      drained = drained-where how script.turns g answer t (lines_below s s.plain.opened) closing small names behind
          (sym (ap (λ (z : Settings). z.links) is) ∙ links) (subst LeavesRoom is (leaves-room s.settings holds k.groups)) relayed
          played.answered played.took_all played.turns ends_so;
      polls = polls_fail_as_scripted g answer script.turns (closing_step g) t played.answered legal;
      asked = asked;
      read_back = trace_of-trace_text t (stood_is_spellable t x s k (omega (arith, links)) timeouts asks reads);
    }
