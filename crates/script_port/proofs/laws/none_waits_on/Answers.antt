use Rattle.script_port.proofs.ScriptWaitingLemmas.{none_waits_on}
use Rattle.script_port.proofs.laws.none_waits_on.Goals as goal

pub returns : goal.returns
returns c = none_waits_on
