use Rattle.std.proofs.Common.{ap, ◌∙◌}
use Rattle.script_port.specs.ScriptState.{PortState}
use Rattle.script_port.specs.ScriptPort.{next_turn, begin_turn}
use Rattle.script_port.specs.ScriptTold.{ends_told}
use Rattle.ev_port.proofs.StepLemmas.{EndWent-none}
use Rattle.script_port.proofs.CallLemmas.{turn_untold}
use Rattle.script_port.specs.ScriptPortView.{port_state}
use Rattle.script_port.proofs.ScriptTurnLemmas.{reading_vouched}
use Rattle.script_port.proofs.FaultLemmas.{faults_stay, faults-turn, polls-turn}
use Rattle.script_port.proofs.script_port.ScriptPortPort.now.Goals as goal

pub returns-clause-ends : goal.returns-clause-ends
returns-clause-ends c = λ e.
    let p = c.args.self.now in
    let links = ap (λ (q : PortState). q.links) (c.self.view_is ∙ c.begin_turn.ensures) in
    let same = turn_untold (next_turn p) p e in
    rw (links, same) (EndWent-none (ends_told p.links e))

pub returns-clause-vouched : goal.returns-clause-vouched
returns-clause-vouched c =
    rw c.saturating_add-self-inside.ensures (reading_vouched c.args.self.now (port_state c.self.inside)
    (c.self.view_is ∙ c.begin_turn.ensures))

pub returns-clause-cause : goal.returns-clause-cause
returns-clause-cause c =
    let p = c.args.self.now in
    let links = ap (λ (q : PortState). q.links) (c.self.view_is ∙ c.begin_turn.ensures) in
    let polls = ap (λ (q : PortState). q.tally.poll_faults) (c.self.view_is ∙ c.begin_turn.ensures) ∙ polls-turn (next_turn p) p in
    rw (links, polls) (faults_stay p.links (begin_turn (next_turn p) p).links p.tally.poll_faults (faults-turn (next_turn p) p))
