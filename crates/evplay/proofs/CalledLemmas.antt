-- A trace of a run is called for by the plan of its port.
use Rattle.std.proofs.Common.{◌≡◌, ◌≤◌, ◌+◌, ◌++◌, ℕ, zero, suc, [], List, length, arith, refl, sym, ap, ◌∙◌, subst, append-nil}
use Rattle.std.proofs.Common.{length-append}
use Rattle.std.specs.Prelude.{count_by}
use Rattle.std.proofs.lemmas.Grind.{flat_map-append}
use Rattle.ev_types.specs.ScriptTurn.{ScriptTurn, lines_of}
use Rattle.ev_types.specs.Trace.{Trace}
use Rattle.relay_model.specs.Called.{NamesOpened}
use Rattle.relay_model.specs.RatesKept.{is_turn}
use Rattle.relay_model.specs.Stages.{Stage, at}
use Rattle.relay_state.specs.State.{State}
use Rattle.relay_steps.specs.Meaning.{StandsFor}
use Rattle.program_end.proofs.TurnCountLemmas.{begun-is}
use Rattle.script_port.specs.ScriptPlan.{closings, ScriptPlan, IsCalledBy}
use Rattle.evplay.proofs.OrderLemmas.{opens-in-order}

lines_of-closings : (n : ℕ) → lines_of (closings n) ≡ []
lines_of-closings zero = refl
lines_of-closings (suc n) = lines_of-closings n

length-closings : (n : ℕ) → length (closings n) ≡ n
length-closings zero = refl
length-closings (suc n) = ap suc (length-closings n)

-- closing turns have no lines
lines_of-planned : (turns : List ScriptTurn) (n : ℕ) → lines_of (turns ++ closings n) ≡ lines_of turns
lines_of-planned turns n =
    flat_map-append (λ (turn : ScriptTurn). turn.1) turns (closings n)
    ∙ ap (λ z. lines_of turns ++ z) (lines_of-closings n)
    ∙ append-nil (lines_of turns)

-- a trace of at most as many turns as there are is called for
pub called-by : (plan : ScriptPlan) (t : Trace) (x : Stage) (s : State) → StandsFor t x s → NamesOpened 0 (lines_of plan.turns) →
    count_by is_turn t ≤ length plan.turns + plan.closing → IsCalledBy plan t
called-by plan t x s k names few = record {
  lines = subst (NamesOpened 0) (sym (lines_of-planned plan.turns plan.closing)) names;
  turns_left = omega (
    arith,
    length-append plan.turns (closings plan.closing),
    length-closings plan.closing,
    begun-is (plan.turns ++ closings plan.closing) t,
    few,
  );
  in_order = opens-in-order s.settings t (at x s.plain, k.reached);
}
