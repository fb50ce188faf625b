use Rattle.std.proofs.Common.{subst}
use Rattle.relay_model.specs.Script.{closing_step}
use Rattle.relay_model.specs.Plays.{IsAnswered}
use Rattle.script_port.specs.ScriptPlan.{plan_of_run}
use Rattle.script_port.proofs.ScriptVouchLemmas.{called_theirs, stands_if}
use Rattle.script_port.proofs.laws.vouched_is_played.Goals as goal

pub returns : goal.returns
returns c = λ script p t closing announced answer vouches asked took ends.
    let plan = plan_of_run script announced in
    let stands = stands_if p plan t vouches (called_theirs p plan t vouches.turns vouches.closing asked) in record {
      answered = subst (λ turns. IsAnswered turns (closing_step script.settings) t) vouches.turns stands.answered;
      took_all = took;
      turns = ends;
    }
