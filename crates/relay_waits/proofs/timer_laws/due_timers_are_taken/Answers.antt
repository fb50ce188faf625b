use Rattle.relay_waits.proofs.TimerLemmas.{due-are_the_models, rising-stays}
use Rattle.relay_waits.proofs.timer_laws.due_timers_are_taken.Goals as goal

pub returns-clause-taken : goal.returns-clause-taken
returns-clause-taken c = due-are_the_models

pub returns-clause-rising : goal.returns-clause-rising
returns-clause-rising c = rising-stays
