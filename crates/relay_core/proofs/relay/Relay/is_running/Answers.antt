use Rattle.std.proofs.Common.{◌≡◌, true}
use Rattle.relay_core.specs.Steps.{is_running}
use Rattle.relay_core.proofs.RunningLemmas.{running-settled}
use Rattle.relay_core.proofs.relay.Relay.is_running.Goals as goal

pub returns-clause-settled : goal.returns-clause-settled
returns-clause-settled c = λ h.
    let s = c.args.self.now.state in
    let runs : is_running s c.args.link ≡ true = cc in
    running-settled s c.args.link runs
