use Rattle.script_port.proofs.CallLemmas.{still_brings, length-wrote, wrote_ends}
use Rattle.script_port.specs.ScriptPortView.{port_state}
use Rattle.script_port.proofs.ScriptVouchLemmas.{call_vouched, write_stood}
use Rattle.std.proofs.Common.{refl}
use Rattle.script_port.proofs.FaultLemmas.{write_faults}
use Rattle.script_port.proofs.script_port.ScriptPortPort.write.Goals as goal

pub invariant_of-self : goal.invariant_of-self
invariant_of-self c =
    let l = c.self.inside.links in
    let long = length-wrote l.state c.write.new.self.state c.args.end c.args.from.now c.write.result c.write.ensures.wrote in
    rw c.write.ensures.kept (still_brings _ l c.write.new.self.state long c.self.invariant.0, c.self.invariant.1)

pub returns-clause-ends : goal.returns-clause-ends
returns-clause-ends c =
    rw (← c.self.view_is)
    (wrote_ends c.self.inside.links.state c.write.new.self.state c.args.end c.args.from.now c.write.result c.write.ensures.wrote)

pub returns-clause-vouched : goal.returns-clause-vouched
returns-clause-vouched c =
    let p = port_state c.self.inside in
    rw (← c.self.view_is)
    (call_vouched p _ (record p { links = c.write.new.self.state }) _ _ refl refl refl (write_stood p c.write.new.self.state
    c.args.end c.args.from.now c.write.result c.write.ensures.wrote))

pub returns-clause-cause : goal.returns-clause-cause
returns-clause-cause c =
    let p = port_state c.self.inside in
    rw (← c.self.view_is) (write_faults p.links _ p.tally.poll_faults c.args.end c.args.from.now _ c.write.ensures.wrote)
