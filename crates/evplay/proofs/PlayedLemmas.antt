-- What a script port vouches for is played from its script, whatever else that says.
use Rattle.std.proofs.Common.{◌+◌, ℕ, length, [], sym, subst, append-nil}
use Rattle.ev_types.specs.Trace.{Trace}
use Rattle.script_port.specs.ScriptPlan.{plan_of_run, ScriptPlan, IsCalledBy}
use Rattle.script_port.specs.ScriptState.{PortState}
use Rattle.script_port.specs.ScriptVouched.{PortStands, ScriptVouches}
use Rattle.relay_model.specs.Answers.{TurnAnswer}
use Rattle.relay_model.specs.Plays.{AlwaysTookAll, EndsPlayed, IsAnswered, Plays}
use Rattle.relay_model.specs.Script.{Script, closing_step}

-- a port stands where it vouches, if that is called for
pub stands-there : (p : PortState) (plan : ScriptPlan) (t : Trace) → ScriptVouches p plan t → IsCalledBy plan t → PortStands p plan.step t
stands-there p plan t vouches called =
    let same = append-nil t in
    subst (PortStands p plan.step) same (vouches.stands [] tt (subst (IsCalledBy plan) (sym same) called))

pub played-of : (script : Script) (p : PortState) (closing : ℕ) (answer : TurnAnswer) (t : Trace) →
    ScriptVouches p (plan_of_run script closing) t → IsCalledBy (plan_of_run script closing) t →
    AlwaysTookAll script.turns script.settings.links [] t →
    EndsPlayed script.turns script.settings.links (length script.turns + closing) answer t → Plays script closing answer t
played-of script p closing answer t vouches called took ends = record {
  answered = subst (λ turns. IsAnswered turns (closing_step script.settings) t) vouches.turns
      (stands-there p (plan_of_run script closing) t vouches called).answered;
  took_all = took;
  turns = ends;
}
