use Rattle.std.proofs.Common.{◌≡◌, ◌⊎◌, sym, subst}
use Rattle.script_port.specs.ScriptClosing.{announced}
use Rattle.script_port.specs.ScriptPortView.{port_state}
use Rattle.script_port.specs.ScriptState.{PortState}
use Rattle.script_port.specs.ScriptVouched.{VouchesOn}
use Rattle.script_port.proofs.ScriptTurnLemmas.{vouches_on}
use Rattle.script_port.proofs.script_port.ScriptPort.closing.Goals as goal

pub returns-clause-vouched : goal.returns-clause-vouched
returns-clause-vouched c =
    let p = port_state c.self.inside in
    let step = c.args.step in
    let same = subst (λ (q : PortState). (q.closing ≡ 0) ⊎ (q.step ≡ step)) (sym c.self.view_is) c.requires.same_step in
    subst (λ (q : PortState). VouchesOn step q (announced step p)) c.self.view_is (vouches_on step p same)
