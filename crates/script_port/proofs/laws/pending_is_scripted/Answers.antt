use Rattle.script_port.proofs.ScriptPendingLemmas.{pending_is_scripted}
use Rattle.script_port.proofs.laws.pending_is_scripted.Goals as goal

pub returns : goal.returns
returns c = pending_is_scripted
