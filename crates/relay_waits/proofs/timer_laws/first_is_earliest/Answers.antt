use Rattle.relay_waits.proofs.TimerLemmas.{first-is_earliest}
use Rattle.relay_waits.proofs.timer_laws.first_is_earliest.Goals as goal

pub returns : goal.returns
returns c = first-is_earliest
