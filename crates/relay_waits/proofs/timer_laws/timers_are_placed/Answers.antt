use Rattle.relay_waits.proofs.TimerLemmas.{timers-are_placed}
use Rattle.relay_waits.proofs.timer_laws.timers_are_placed.Goals as goal

pub returns : goal.returns
returns c = timers-are_placed
