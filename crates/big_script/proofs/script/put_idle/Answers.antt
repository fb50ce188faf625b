use Rattle.std.proofs.Common.{◌+◌, ◌-◌, ◌*◌, ◌++◌, List, refl, ap, ◌∙◌}
use Rattle.script_text.specs.ScriptView.{turn_values}
use Rattle.script_text.proofs.TurnLemmas.{Turn}
use Rattle.big_script.specs.BigScript.{idle_turns}
use Rattle.big_script.proofs.PutLemmas.{idle-put}
use Rattle.big_script.proofs.script.put_idle.Goals as goal

-- one turn more was put
pub loop-i-preserved : goal.loop-i-preserved
loop-i-preserved c =
    let i = c.loop-i.i in
    let turn : Turn = ((i + 2) * 1000, c.new.result) in
    ap (λ (all : List Turn). turn_values all ++ idle_turns (10 - (i + 1)) (2000 + 1000 * (i + 1))) c.in_ok-push.ensures.items
    ∙ idle-put c.loop-i.turns.items turn i c.loop-i-test.true refl c.new.ensures.items
    ∙ c.loop-i.invariant
