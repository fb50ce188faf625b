use Rattle.std.proofs.Common.{[], refl}
use Rattle.script_port.specs.ScriptPort.{after_start}
use Rattle.script_port.specs.ScriptPortView.{port_state}
use Rattle.script_port.proofs.ScriptVouchLemmas.{call_vouched, start_stood}
use Rattle.script_port.proofs.FaultLemmas.{counted-none}
use Rattle.script_port.proofs.script_port.ScriptPortPort.start.Goals as goal

pub returns-clause-vouched : goal.returns-clause-vouched
returns-clause-vouched c =
    let p = port_state c.self.inside in
    rw (← c.self.view_is) (call_vouched p _ (after_start p c.args.listen c.args.to) [] [] refl refl refl
    (start_stood p c.args.listen c.args.to))

pub returns-clause-cause : goal.returns-clause-cause
returns-clause-cause c = rw (← c.self.view_is) (record { ends = λ e. refl; polling = refl; listener = counted-none 0 })
