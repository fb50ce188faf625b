use Rattle.bev_world.proofs.WentLemmas.{went_idle}
use Rattle.bufferevent_tests.proofs.callbacks.trigger.Goals as goal

pub returns : goal.returns
returns c = went_idle _ _ c.trigger.ensures.went c.requires
