use Rattle.event_base.proofs.OrderLemmas.{timers-fire_in_order}
use Rattle.event_base.proofs.laws.timers_fire_in_order.Goals as goal

pub returns : goal.returns
returns c = timers-fire_in_order
