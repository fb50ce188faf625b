use Rattle.relay_waits.proofs.TimerLemmas.{timers-are_cancelled}
use Rattle.relay_waits.proofs.timer_laws.timers_are_cancelled.Goals as goal

pub returns : goal.returns
returns c = timers-are_cancelled
