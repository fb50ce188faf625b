use Rattle.event_base.proofs.RunLemmas.{persistent-is_set_again}
use Rattle.event_base.proofs.laws.persistent_timers_are_set_again.Goals as goal

pub returns : goal.returns
returns c = persistent-is_set_again
